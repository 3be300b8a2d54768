-- The order of information on yes, no, open and on spans (what is open may become anything, what is decided stays), and that the operations keep it.
use Rattle.std.proofs.Common.{◌≡◌, ℕ, ◌≤◌, Bool, true, false, cond, ◌⊎◌, sym, refl, subst, inl, inr, arith}
use Rattle.std.proofs.lemmas.Bool.{true≢false}
use Rattle.values.specs.declared.tri.Tri.{Tri}
use Rattle.values.specs.declared.tri.Tri.TheVariants.{No, Open, Yes}
use Rattle.values.specs.Tri.{not_tri, and_tri, or_tri, is_open}
use Rattle.values.specs.declared.span.Span.{Span}
use Rattle.values.specs.Span.{exactly, sum, greater, lesser_of, greater_of, either, counted}

-- what is open may become anything; what is decided stays
pub data Below : Tri → Tri → Type 0 where
  opens : {b : Tri} → Below Open b
  same : {a : Tri} → Below a a

pub below_of : {a b : Tri} → (a ≡ Open) ⊎ (a ≡ b) → Below a b
below_of {a} {b} (inl e) = subst (λ z. Below z b) (sym e) opens
below_of {a} {b} (inr e) = subst (λ z. Below a z) e same

pub below_is : {a b : Tri} → Below a b → (a ≡ Open) ⊎ (a ≡ b)
below_is opens = inl refl
below_is same = inr refl

pub below_decided : {a b : Tri} → Below a b → is_open a ≡ false → a ≡ b
below_decided opens e = absurd (true≢false e)
below_decided same e = refl

pub not_monotone : {a b : Tri} → Below a b → Below (not_tri a) (not_tri b)
not_monotone opens = opens
not_monotone same = same

and_open : (a b c d : Tri) → (a ≡ Open) ⊎ (a ≡ b) → (c ≡ Open) ⊎ (c ≡ d) → (and_tri a c ≡ Open) ⊎ (and_tri a c ≡ and_tri b d)
and_open a b c d p q = grind arith

or_open : (a b c d : Tri) → (a ≡ Open) ⊎ (a ≡ b) → (c ≡ Open) ⊎ (c ≡ d) → (or_tri a c ≡ Open) ⊎ (or_tri a c ≡ or_tri b d)
or_open a b c d p q = grind arith

pub and_monotone : {a b c d : Tri} → Below a b → Below c d → Below (and_tri a c) (and_tri b d)
and_monotone {a} {b} {c} {d} p q = below_of (and_open a b c d (below_is p) (below_is q))

pub or_monotone : {a b c d : Tri} → Below a b → Below c d → Below (or_tri a c) (or_tri b d)
or_monotone {a} {b} {c} {d} p q = below_of (or_open a b c d (below_is p) (below_is q))

pub if_below : (t : Bool) {a b c d : Tri} → (t ≡ true → Below a b) → (t ≡ false → Below c d) → Below (cond t a c) (cond t b d)
if_below true p q = p refl
if_below false p q = q refl

-- the second span lies in the first, and its least is at most its greatest
pub record Within (a b : Span) : Type 0 where
  pub low : a.least ≤ b.least
  pub fair : b.least ≤ b.greatest
  pub high : b.greatest ≤ a.greatest

pub within_exactly : (n : ℕ) → Within (exactly n) (exactly n)
within_exactly n = omega arith

pub sum_monotone : {a b c d : Span} → Within a b → Within c d → Within (sum a c) (sum b d)
sum_monotone p q = omega arith

pub if_within : (t : Bool) {a b c d : Span} → (t ≡ true → Within a b) → (t ≡ false → Within c d) → Within (cond t a c) (cond t b d)
if_within true p q = p refl
if_within false p q = q refl

pub counted_monotone : {a b : Tri} → Below a b → Within (counted a) (counted b)
counted_monotone {a} {b} p = let h = below_is p in record { low = grind arith; fair = grind arith; high = grind arith }

greater_open : (a b c d : Span) → Within a b → Within c d → (greater a c ≡ Open) ⊎ (greater a c ≡ greater b d)
greater_open a b c d p q = let h = p.low in let i = p.fair in let j = p.high in let k = q.low in let l = q.fair in let n = q.high in grind arith

pub greater_monotone : {a b c d : Span} → Within a b → Within c d → Below (greater a c) (greater b d)
greater_monotone {a} {b} {c} {d} p q = below_of (greater_open a b c d p q)

pub lesser_left : (a b : ℕ) → lesser_of a b ≤ a
lesser_left a b = grind arith

pub lesser_right : (a b : ℕ) → lesser_of a b ≤ b
lesser_right a b = grind arith

greater-left : (a b : ℕ) → a ≤ greater_of a b
greater-left a b = grind arith

greater_right : (a b : ℕ) → b ≤ greater_of a b
greater_right a b = grind arith

pub either_monotone : {s t : Tri} {a b c d : Span} → Below s t → Within a b → Within c d → Within (either s a c) (either t b d)
either_monotone {a} {b} {c} {d} (opens {b = No}) p q = omega (arith, lesser_right a.least c.least, greater_right a.greatest c.greatest)
either_monotone {a} {b} {c} {d} (opens {b = Open}) p q = record { low = grind arith; fair = grind arith; high = grind arith }
either_monotone {a} {b} {c} {d} (opens {b = Yes}) p q = omega (arith, lesser_left a.least c.least, greater-left a.greatest c.greatest)
either_monotone (same {a = No}) p q = q
either_monotone (same {a = Open}) p q = record { low = grind arith; fair = grind arith; high = grind arith }
either_monotone (same {a = Yes}) p q = p
