-- Chains of fleets: where more fleets count, whoever was reached is reached still.
use Rattle.std.proofs.Common.{◌≡◌, ℕ, zero, suc, Bool, true, false, cond, ◌&&◌, ◌||◌, List, ◌∷◌, length, refl, arith}
use Rattle.std.proofs.lemmas.Bool.{false≢true, or_right}
use Rattle.values.specs.Fold.{gather, any}
use Rattle.values.specs.declared.tri.Tri.{Tri}
use Rattle.geography.specs.Links.{linked}
use Rattle.board.specs.declared.unit.Unit.{Unit}
use Rattle.board.specs.declared.order.Order.{Order}
use Rattle.board.specs.Board.{Board}
use Rattle.board.specs.Order.{convoys}
use Rattle.assignment.specs.declared.resolution.Resolution.{Resolution}
use Rattle.paths.specs.Paths.{touches, carrier, reached, flood, lands, chain}
use Rattle.deciding_laws.proofs.Along.{it, Along, none, more, along_length}

or_test : (a b c d : Bool) → (a ≡ true → c ≡ true) → (b ≡ true → d ≡ true) → (a || b) ≡ true → (c || d) ≡ true
or_test a b c d i j h = grind arith

-- whoever lies beside one of the first lies beside one of the second
pub record Reach (m : Board) (rs qs : List ℕ) : Type 0 where
  pub goes : (r : ℕ) → touches m r rs ≡ true → touches m r qs ≡ true

more_reach : (m : Board) (n : ℕ) (b c : Bool) → (b ≡ true → c ≡ true) → {rs qs : List ℕ} → Reach m rs qs → Reach m (cond b (n ∷ rs) rs) (cond c (n ∷ qs) qs)
unfolding any
more_reach m n true true i s = record { goes = λ r. or_test (linked r n m.sail) (touches m r _) (linked r n m.sail) (touches m r _) (λ e. e) (s.goes r) }
more_reach m n true false i s = absurd (false≢true (i refl))
more_reach m n false true i s = record { goes = λ r h. or_right (linked r n m.sail) (touches m r _) (s.goes r h) }
more_reach m n false false i s = s

-- a test that passes wherever the other does
abbrev pub Implies : (Resolution → Bool) → (Resolution → Bool) → Resolution → Resolution → Type 0
Implies p q x y = p x ≡ true → q y ≡ true

carrier_test : (a b c d e : Bool) → (b ≡ true → d ≡ true) → (c ≡ true → e ≡ true) → (a && b && c) ≡ true → (a && d && e) ≡ true
carrier_test a b c d e i j h = grind arith

carrier_monotone : (m : Board) (p q : Resolution → Bool) (f t : ℕ) {rs qs : List ℕ} → Reach m rs qs → (u : Unit) (o : Order) (v w : Tri) (d e : Bool) → Implies p q (it u o v d) (it u o w e) →
    carrier m p f t rs (it u o v d) ≡ true → carrier m q f t qs (it u o w e) ≡ true
carrier_monotone m p q f t {rs} {qs} s u o v w d e i = carrier_test (convoys f t o) (p (it u o v d)) (touches m u.region rs) (q (it u o w e)) (touches m u.region qs) i (s.goes u.region)

pub reached_monotone : (m : Board) (p q : Resolution → Bool) (f t : ℕ) {rs qs : List ℕ} → Reach m rs qs → {xs ys : List Resolution} → Along (Implies p q) xs ys → Reach m (reached m p f t rs xs) (reached m q f t qs ys)
unfolding gather
reached_monotone m p q f t s none = s
reached_monotone m p q f t {rs} {qs} s (more u o {v} {w} {d} {e} i a) =
    more_reach m u.region _ _ (carrier_monotone m p q f t s u o v w d e i) (reached_monotone m p q f t s a)

pub flood_monotone : (n : ℕ) (m : Board) (p q : Resolution → Bool) (f t : ℕ) {xs ys : List Resolution} → Along (Implies p q) xs ys → {rs qs : List ℕ} → Reach m rs qs → Reach m (flood n m p f t xs rs) (flood n m q f t ys qs)
unfolding flood
flood_monotone zero m p q f t a s = s
flood_monotone (suc n) m p q f t a s = flood_monotone n m p q f t a (reached_monotone m p q f t s a)

and_test : (a b c : Bool) → (a ≡ true → b ≡ true) → (a && c) ≡ true → (b && c) ≡ true
and_test a b c i h = grind arith

pub lands_monotone : (m : Board) (p q : Resolution → Bool) (f t : ℕ) {rs qs : List ℕ} → Reach m rs qs → {xs ys : List Resolution} → Along (Implies p q) xs ys → lands m p f t rs xs ≡ true → lands m q f t qs ys ≡ true
unfolding any
lands_monotone m p q f t s none h = h
lands_monotone m p q f t {rs} {qs} s (more u o {v} {w} {d} {e} {xs} {ys} i a) h =
    let b = carrier m p f t rs (it u o v d) in
    let c = carrier m q f t qs (it u o w e) in
    let n = linked u.region t m.sail in
    or_test (b && n) (lands m p f t rs xs) (c && n) (lands m q f t qs ys) (and_test b c n (carrier_monotone m p q f t s u o v w d e i)) (lands_monotone m p q f t s a) h

pub chain_monotone : (m : Board) (p q : Resolution → Bool) (f t : ℕ) {xs ys : List Resolution} → Along (Implies p q) xs ys → chain m p f t xs ≡ true → chain m q f t ys ≡ true
chain_monotone m p q f t {xs} {ys} a h = lands_monotone m p q f t (rw (← along_length a) (flood_monotone (length xs) m p q f t a (record { goes = λ r k. k }))) a h
