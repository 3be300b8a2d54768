-- Where supports and paths are decided, strengths are exact, and a move waits at most for the unit in the region that it goes to.
use Rattle.std.proofs.Common.{◌≡◌, ℕ, ◌≤◌, Bool, true, false, cond, not, ◌&&◌, eqb, ltb, leb, List, [], ◌∷◌, Some, None, Option, sym, refl, ◌∙◌, subst, arith}
use mathlib.Core.List.{Memᴰ}
use Rattle.std.proofs.lemmas.Bool.{true≢false, false≢true, ltb-false, leb-false, eq-eqb, and_parts, not-true}
use Rattle.values.specs.Fold.{gather}
use Rattle.values.specs.declared.tri.Tri.{Tri}
use Rattle.values.specs.declared.tri.Tri.TheVariants.{No, Yes}
use Rattle.values.specs.Tri.{not_tri, and_tri, or_tri}
use Rattle.values.specs.declared.span.Span.{Span}
use Rattle.values.specs.Span.{exactly, sum, greater, either, counted}
use Rattle.board.specs.declared.order.Order.{Order}
use Rattle.board.specs.Board.{Board}
use Rattle.board.specs.Order.{goes_to, is_move, is_support, aim, supports_move, supports_hold}
use Rattle.assignment.specs.declared.resolution.Resolution.{Resolution}
use Rattle.assignment.specs.Assignment.{who}
use Rattle.paths.specs.Paths.{path}
use Rattle.strength.specs.Strength.{support, support_for, support_but, head_to_head, attack_on, attack, prevent_of, prevent, to_beat}
use Rattle.strength.specs.Decide.{rival, beats_rivals, move_succeeds}
use Rattle.deciding_laws.proofs.Along.{gather_keeps}

pub data Known : Tri → Type 0 where
  no : Known No
  yes : Known Yes

pub not_known : {a : Tri} → Known a → Known (not_tri a)
not_known Known.no = Known.yes
not_known Known.yes = Known.no

pub and_known : {a b : Tri} → Known a → Known b → Known (and_tri a b)
and_known Known.no q = Known.no
and_known Known.yes q = q

pub or_known : {a b : Tri} → Known a → Known b → Known (or_tri a b)
or_known Known.yes q = Known.yes
or_known Known.no q = q

pub if_known : (t : Bool) {a b : Tri} → (t ≡ true → Known a) → (t ≡ false → Known b) → Known (cond t a b)
if_known true p q = p refl
if_known false p q = q refl

pub record Exact (a : Span) : Type 0 where
  pub exact : a.least ≡ a.greatest

pub exactly_exact : (n : ℕ) → Exact (exactly n)
exactly_exact n = record { exact = refl }

pub sum_exact : {a b : Span} → Exact a → Exact b → Exact (sum a b)
sum_exact p q = omega arith

pub counted_exact : {v : Tri} → Known v → Exact (counted v)
counted_exact Known.no = exactly_exact 0
counted_exact Known.yes = exactly_exact 1

pub if_exact : (t : Bool) {a b : Span} → (t ≡ true → Exact a) → (t ≡ false → Exact b) → Exact (cond t a b)
if_exact true p q = p refl
if_exact false p q = q refl

pub either_exact : {t : Tri} {a b : Span} → Known t → Exact a → Exact b → Exact (either t a b)
either_exact Known.no p q = q
either_exact Known.yes p q = p

pub greater_known : {a b : Span} → Exact a → Exact b → Known (greater a b)
greater_known {a} {b} p q = if_known (ltb b.greatest a.least) (λ _. Known.yes) (λ e. if_known (leb a.greatest b.least) (λ _. Known.no) (λ f. absurd (omega (arith, ltb-false b.greatest a.least e, leb-false a.greatest b.least f))))

pub support_exact : (p : Resolution → Bool) (zs : List Resolution) → ((x : Resolution) → Memᴰ x zs → p x ≡ true → Known x.value) → Exact (support p zs)
support_exact p zs h = gather_keeps Exact p (λ y s. sum (counted y.value) s) (exactly_exact 0) zs (λ x i e s k. sum_exact (counted_exact (h x i e)) k)

-- with fewer that count, less
pub support_le : (p q : Resolution → Bool) (zs : List Resolution) → ((x : Resolution) → p x ≡ true → q x ≡ true) → (support p zs).greatest ≤ (support q zs).greatest
unfolding gather
support_le p q [] h = omega arith
support_le p q (x ∷ xs) h = go (p x) (q x) (h x) (support_le p q xs h)
  where
    go : (s t : Bool) → (s ≡ true → t ≡ true) → (support p xs).greatest ≤ (support q xs).greatest → (cond s (sum (counted x.value) (support p xs)) (support p xs)).greatest ≤ (cond t (sum (counted x.value) (support q xs)) (support q xs)).greatest
    go true true i k = omega arith
    go true false i k = absurd (false≢true (i refl))
    go false true i k = omega arith
    go false false i k = k

pub supports_move-supports : (f t : ℕ) (o : Order) → supports_move f t o ≡ true → (is_support o ≡ true) × (aim o ≡ t)
supports_move-supports f t o e = grind arith

pub supports_hold-supports : (r : ℕ) (o : Order) → supports_hold r o ≡ true → (is_support o ≡ true) × (aim o ≡ r)
supports_hold-supports r o e = grind arith

pub goes_to-aim : (r : ℕ) (o : Order) → goes_to r o ≡ true → (is_move o ≡ true) × (aim o ≡ r)
goes_to-aim r o e = grind arith

pub head_to_head_parts : (x y : Resolution) → head_to_head x y ≡ true → (goes_to x.unit.region y.order ≡ true) × (goes_to y.unit.region x.order ≡ true)
head_to_head_parts x y e = grind arith

-- who meets a third comes from one place
one_head_to_head : (x y z : Resolution) → head_to_head x y ≡ true → head_to_head z y ≡ true → x.unit.region ≡ z.unit.region
one_head_to_head x y z e f = grind arith

-- what the strengths of x, on its way to t, need of who is there
abbrev pub Calm : List Resolution → ℕ → Resolution → Option Resolution → Type 0
Calm zs t x None = Unit {0}
Calm zs t x (Some y) = (y.unit.region ≡ t) × (is_move y.order ≡ true → head_to_head x y ≡ false → Known y.value) × (head_to_head x y ≡ true → Exact (support_for y zs))

-- what a move's prevent needs
abbrev pub Still : Resolution → Option Resolution → Type 0
Still z None = Unit {0}
Still z (Some y) = head_to_head z y ≡ true → Known y.value

pub calm_still : (zs : List Resolution) (t : ℕ) (x z : Resolution) (w : Option Resolution) → Calm zs t x w → not (eqb x.unit.region z.unit.region) ≡ true → Still z w
calm_still zs t x z None c n = tt
calm_still zs t x z (Some y) c n = λ e. go e (head_to_head x y) refl
  where
    go : head_to_head z y ≡ true → (b : Bool) → head_to_head x y ≡ b → Known y.value
    go e true f = absurd (true≢false (sym (eq-eqb _ _ (one_head_to_head x y z f e)) ∙ not-true _ n))
    go e false f = c.1 (goes_to-aim _ y.order (head_to_head_parts z y e).0).0 f

module _ (m : Board) (zs : List Resolution) (t : ℕ) (known : (z : Resolution) → Memᴰ z zs → is_support z.order ≡ true → aim z.order ≡ t → Known z.value) (paths : (z : Resolution) → Memᴰ z zs → is_move z.order ≡ true → Known (path m z zs)) where
  pub support_for_exact : (x : Resolution) → aim x.order ≡ t → Exact (support_for x zs)
  support_for_exact x e = support_exact (λ y. supports_move x.unit.region (aim x.order) y.order) zs (λ z i k. let h = supports_move-supports x.unit.region (aim x.order) z.order k in known z i h.0 (h.1 ∙ e))

  pub support_but_exact : (p : ℕ) (x : Resolution) → aim x.order ≡ t → Exact (support_but p x zs)
  support_but_exact p x e = support_exact (λ y. supports_move x.unit.region (aim x.order) y.order && not (eqb p y.unit.power)) zs (λ z i k. let h = supports_move-supports x.unit.region (aim x.order) z.order (and_parts _ (not (eqb p z.unit.power)) k).0 in known z i h.0 (h.1 ∙ e))

  pub attack_on_exact : (x : Resolution) → aim x.order ≡ t → (w : Option Resolution) → Calm zs t x w → Exact (attack_on x zs w)
  attack_on_exact x e None c = sum_exact (exactly_exact 1) (support_for_exact x e)
  attack_on_exact x e (Some y) c =
      either_exact (if_known (is_move y.order && not (head_to_head x y)) (λ k. c.1 (and_parts (is_move y.order) (not (head_to_head x y)) k).0 (not-true (head_to_head x y) (and_parts (is_move y.order) (not (head_to_head x y)) k).1)) (λ _. Known.no))
      (sum_exact (exactly_exact 1) (support_for_exact x e))
      (if_exact (eqb x.unit.power y.unit.power) (λ _. exactly_exact 0) (λ _. sum_exact (exactly_exact 1) (support_but_exact y.unit.power x e)))

  pub attack_exact : (x : Resolution) → Memᴰ x zs → is_move x.order ≡ true → aim x.order ≡ t → Calm zs t x (who t zs) → Exact (attack m x zs)
  unfolding attack
  attack_exact x i k e c = subst (λ r. Exact (either (path m x zs) (attack_on x zs (who r zs)) (exactly 0))) (sym e) (either_exact (paths x i k) (attack_on_exact x e (who t zs) c) (exactly_exact 0))

  pub prevent_of_exact : (z : Resolution) → aim z.order ≡ t → (w : Option Resolution) → Still z w → Exact (prevent_of z zs w)
  prevent_of_exact z e None s = sum_exact (exactly_exact 1) (support_for_exact z e)
  prevent_of_exact z e (Some y) s = if_exact (head_to_head z y) (λ k. either_exact (s k) (exactly_exact 0) (sum_exact (exactly_exact 1) (support_for_exact z e))) (λ _. sum_exact (exactly_exact 1) (support_for_exact z e))

  pub prevent_exact : (z : Resolution) → Memᴰ z zs → is_move z.order ≡ true → aim z.order ≡ t → Still z (who t zs) → Exact (prevent m z zs)
  unfolding prevent
  prevent_exact z i k e s = subst (λ r. Exact (either (path m z zs) (prevent_of z zs (who r zs)) (exactly 0))) (sym e) (either_exact (paths z i k) (prevent_of_exact z e (who t zs) s) (exactly_exact 0))

  pub to_beat_exact : (x : Resolution) → (w : Option Resolution) → Calm zs t x w → Exact (to_beat x zs w)
  to_beat_exact x None c = exactly_exact 0
  to_beat_exact x (Some y) c =
      if_exact (head_to_head x y) (λ k. sum_exact (exactly_exact 1) (c.2 k))
      (λ n. if_exact (is_move y.order) (λ k. either_exact (c.1 k n) (exactly_exact 0) (exactly_exact 1))
      (λ _. sum_exact (exactly_exact 1) (support_exact (λ z. supports_hold y.unit.region z.order) zs (λ z i k. let h = supports_hold-supports y.unit.region z.order k in known z i h.0 (h.1 ∙ c.0)))))

  pub beats_rivals_known : (a : Span) (x : Resolution) → Exact a → aim x.order ≡ t → Calm zs t x (who t zs) → Known (beats_rivals m a x zs zs)
  beats_rivals_known a x p e c =
      gather_keeps Known (rival x) (λ y r. and_tri (greater a (prevent m y zs)) r) Known.yes zs
      (λ y i k _ r. let h = and_parts (goes_to (aim x.order) y.order) (not (eqb x.unit.region y.unit.region)) k in
      let g = goes_to-aim (aim x.order) y.order h.0 in and_known (greater_known p (prevent_exact y i g.0 (g.1 ∙ e) (calm_still zs t x y (who t zs) c h.1))) r)

  pub move_succeeds_known : (x : Resolution) → Memᴰ x zs → is_move x.order ≡ true → aim x.order ≡ t → Calm zs t x (who t zs) → Known (move_succeeds m x zs)
  move_succeeds_known x i k e c =
      let a = attack_exact x i k e c in
      and_known (greater_known a (subst (λ r. Exact (to_beat x zs (who r zs))) (sym e) (to_beat_exact x (who t zs) c))) (beats_rivals_known (attack m x zs) x a e c)
