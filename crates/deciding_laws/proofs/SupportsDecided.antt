-- Where rounds have ended and all paths are decided, no support is open.
use Rattle.std.proofs.Common.{◌≡◌, ℕ, ◌≤◌, Bool, true, false, cond, not, ◌&&◌, eqb, ◌⊎◌, List, [], ◌∷◌, Some, sym, refl, ap, ◌∙◌, subst, inl, inr, arith}
use mathlib.Core.List.{Memᴰ}
use Rattle.std.proofs.lemmas.Bool.{true≢false, false≢true, eqb-true, eqb-false, ne_eqb}
use Rattle.values.specs.Fold.{gather}
use Rattle.values.specs.declared.tri.Tri.{Tri}
use Rattle.values.specs.declared.tri.Tri.TheVariants.{No, Yes}
use Rattle.values.specs.Tri.{not_tri, and_tri, or_tri}
use Rattle.values.specs.declared.span.Span.{Span}
use Rattle.values.specs.Span.{exactly, sum, greater, either}
use Rattle.board.specs.declared.order.Order.{Order}
use Rattle.board.specs.declared.order.Order.TheVariants.{Hold, Move, SupportHold, SupportMove, Convoy}
use Rattle.board.specs.Board.{Board}
use Rattle.board.specs.Order.{goes_to, is_move, is_support, aim}
use Rattle.assignment.specs.declared.resolution.Resolution.{Resolution}
use Rattle.assignment.specs.Assignment.{who, entered}
use Rattle.paths.specs.Paths.{path}
use Rattle.strength.specs.Strength.{support_but, head_to_head, full, against, attack_on, attack, to_beat}
use Rattle.strength.specs.Decide.{beats_rivals, move_succeeds, cuts, cut, support_stands, decides}
use Rattle.deciding_laws.proofs.Along.{gather_keeps}
use Rattle.deciding_laws.proofs.Exact.{Known, not_known, or_known, if_known, goes_to-aim, head_to_head_parts, Calm, move_succeeds_known}

pub decides_move : (m : Board) (x : Resolution) (zs : List Resolution) (o : Order) → is_move o ≡ true → decides m x zs o ≡ move_succeeds m x zs
decides_move m x zs Hold e = absurd (false≢true e)
decides_move m x zs (Move t w) e = refl
decides_move m x zs (SupportHold q) e = absurd (false≢true e)
decides_move m x zs (SupportMove f t) e = absurd (false≢true e)
decides_move m x zs (Convoy f t) e = absurd (false≢true e)

pub decides-support : (m : Board) (x : Resolution) (zs : List Resolution) (o : Order) → is_support o ≡ true → decides m x zs o ≡ support_stands m x zs
decides-support m x zs Hold e = absurd (false≢true e)
decides-support m x zs (Move t w) e = absurd (false≢true e)
decides-support m x zs (SupportHold q) e = refl
decides-support m x zs (SupportMove f t) e = refl
decides-support m x zs (Convoy f t) e = absurd (false≢true e)

pub decides_none : (m : Board) (x : Resolution) (zs : List Resolution) (o : Order) → is_move o ≡ false → is_support o ≡ false → decides m x zs o ≡ No
decides_none m x zs Hold a b = refl
decides_none m x zs (Move t w) a b = absurd (true≢false a)
decides_none m x zs (SupportHold q) a b = absurd (true≢false b)
decides_none m x zs (SupportMove f t) a b = absurd (true≢false b)
decides_none m x zs (Convoy f t) a b = refl

pub support_no_move : (o : Order) → is_support o ≡ true → is_move o ≡ false
support_no_move o e = grind arith

pub no_move_head_to_head : (x y : Resolution) → is_move y.order ≡ false → head_to_head x y ≡ true → ⊥
no_move_head_to_head x y e k = true≢false (sym (goes_to-aim x.unit.region y.order (head_to_head_parts x y k).0).0 ∙ e)

pub zero_greater : (s : Span) → greater (exactly 0) s ≡ No
zero_greater s = grind arith

pub greater_zero : (s : Span) → 1 ≤ s.least → greater s (exactly 0) ≡ Yes
greater_zero s h = grind arith

-- no attack, no move
pub weak_no : (m : Board) (x : Resolution) (zs : List Resolution) → attack m x zs ≡ exactly 0 → move_succeeds m x zs ≡ No
weak_no m x zs e = subst (λ a. and_tri (greater a (to_beat x zs (who (aim x.order) zs))) (beats_rivals m a x zs zs) ≡ No) (sym e) (rw (zero_greater (to_beat x zs (who (aim x.order) zs))))

cuts_into : (x y : Resolution) → cuts x y ≡ true → goes_to x.unit.region y.order ≡ true
cuts_into x y e = grind arith

-- what a move into the region of a support does to it: nothing, or it cuts
data Hit : Bool → Tri → Tri → Type 0 where
  miss : {f : Bool} → Hit f No No
  hit : {v : Tri} → Hit true v Yes

data Done : Tri → Tri → Type 0 where
  broken : {k : Tri} → Done Yes k
  free : Done No No

step : (g f n : Bool) {v b c k : Tri} → Done c k → (g ≡ true → (n ≡ true) × Hit f v b) → Done (cond (g && f && n) (or_tri b c) c) (cond g (or_tri v k) k)
step false f n d h = d
step true f true d h = go f d (h refl).1
  where
    go : (f : Bool) {v b c k : Tri} → Done c k → Hit f v b → Done (cond (f && true) (or_tri b c) c) (or_tri v k)
    go true broken miss = broken
    go false broken miss = broken
    go true free miss = free
    go false free miss = free
    go true d hit = broken
step true f false d h = absurd (false≢true (h refl).0)

-- rounds have ended, paths are decided, and no two units stand in one region
pub record Rest (m : Board) (zs : List Resolution) : Type 0 where
  pub fixed : (x : Resolution) → Memᴰ x zs → decides m x zs x.order ≡ x.value
  pub paths : (x : Resolution) → Memᴰ x zs → is_move x.order ≡ true → Known (path m x zs)
  pub apart : (x : Resolution) → Memᴰ x zs → who x.unit.region zs ≡ Some x

module _ (m : Board) (zs : List Resolution) (rest : Rest m zs) where
  -- the attack of y on w, which stays where it is
  attack_on_lem : (w y : Resolution) → Memᴰ w zs → is_move w.order ≡ false → aim y.order ≡ w.unit.region → attack m y zs ≡ either (path m y zs) (against y zs w) (exactly 0)
  unfolding attack
  attack_on_lem w y i n e =
      ap (λ r. either (path m y zs) (attack_on y zs (who r zs)) (exactly 0)) e ∙
      (ap (λ z. either (path m y zs) (attack_on y zs z) (exactly 0)) (rest.apart w i) ∙
      ap (λ b. either (path m y zs) (either (cond (b && not (head_to_head y w)) w.value No) (full y zs) (against y zs w)) (exactly 0)) n)

  no_attack : (y : Resolution) → Memᴰ y zs → is_move y.order ≡ true → attack m y zs ≡ exactly 0 → (y.value ≡ No) × (greater (attack m y zs) (exactly 0) ≡ No)
  no_attack y i k e = (sym (rest.fixed y i) ∙ (decides_move m y zs y.order k ∙ weak_no m y zs e), ap (λ a. greater a (exactly 0)) e)

  hits : (w y : Resolution) → Memᴰ w zs → is_move w.order ≡ false → Memᴰ y zs → goes_to w.unit.region y.order ≡ true → Hit (not (eqb w.unit.power y.unit.power)) y.value (greater (attack m y zs) (exactly 0))
  unfolding attack
  hits w y i n j g = go (rest.paths y j k) (eqb y.unit.power w.unit.power) refl (attack_on_lem w y i n e)
    where
      k : is_move y.order ≡ true
      k = (goes_to-aim _ y.order g).0

      e : aim y.order ≡ w.unit.region
      e = (goes_to-aim _ y.order g).1

      missed : attack m y zs ≡ exactly 0 → Hit (not (eqb w.unit.power y.unit.power)) y.value (greater (attack m y zs) (exactly 0))
      missed a = let h = no_attack y j k a in rw (h.0, h.1) miss

      go : {p : Tri} → Known p → (b : Bool) → eqb y.unit.power w.unit.power ≡ b → attack m y zs ≡ either p (cond b (exactly 0) (sum (exactly 1) (support_but w.unit.power y zs))) (exactly 0) → Hit (not (eqb w.unit.power y.unit.power)) y.value (greater (attack m y zs) (exactly 0))
      go Known.no b q a = missed a
      go Known.yes true q a = missed a
      go Known.yes false q a =
          let d : eqb w.unit.power y.unit.power ≡ false = ne_eqb _ _ (λ r. eqb-false _ _ q (sym r)) in
          rw (d, a, greater_zero (sum (exactly 1) (support_but w.unit.power y zs)) (omega arith)) hit

  -- a move from the region that the support is aimed at
  Answered : Resolution → Type 0
  Answered w = (y : Resolution) × Memᴰ y zs × (y.unit.region ≡ aim w.order) × (is_move y.order ≡ true)

  cut_or_answered : (w : Resolution) → Memᴰ w zs → is_move w.order ≡ false → (ys : List Resolution) → ((z : Resolution) → Memᴰ z ys → Memᴰ z zs) → Answered w ⊎ Done (cut m w zs ys) (entered w.unit.region ys)
  unfolding gather Answered
  cut_or_answered w i n [] s = inr free
  cut_or_answered w i n (y ∷ ys) s = go (cut_or_answered w i n ys (λ z j. s z (Memᴰ.tail j))) (goes_to w.unit.region y.order) refl (eqb y.unit.region (aim w.order)) refl
    where
      j : Memᴰ y zs
      j = s y (Memᴰ.head refl)

      go : Answered w ⊎ Done (cut m w zs ys) (entered w.unit.region ys) → (g : Bool) → goes_to w.unit.region y.order ≡ g → (q : Bool) → eqb y.unit.region (aim w.order) ≡ q → Answered w ⊎ Done (cut m w zs (y ∷ ys)) (entered w.unit.region (y ∷ ys))
      go (inl a) g e q f = inl a
      go (inr d) true e true f = inl (y, j, eqb-true _ _ f, (goes_to-aim _ y.order e).0)
      go (inr d) true e false f = inr (step (goes_to w.unit.region y.order) _ (not (eqb y.unit.region (aim w.order))) d (λ k. (ap not f, hits w y i n j k)))
      go (inr d) false e q f = inr (step (goes_to w.unit.region y.order) _ (not (eqb y.unit.region (aim w.order))) d (λ k. absurd (true≢false (sym k ∙ e))))

  done_known : {c k : Tri} → Done c k → Known (not_tri (or_tri c k))
  done_known broken = Known.no
  done_known free = Known.yes

  -- a support is decided unless somebody answers it
  answered : (w : Resolution) → Memᴰ w zs → is_support w.order ≡ true → Answered w ⊎ Known w.value
  answered w i h = elim (cut_or_answered w i n zs (λ z j. j)) [ inl a ↦ inl a | inr d ↦ inr (subst Known (sym (decides-support m w zs w.order h) ∙ rest.fixed w i) (subst (λ b. Known (not_tri (or_tri (cut m w zs zs) (cond b (and_tri (not_tri w.value) (entered w.unit.region zs)) (entered w.unit.region zs))))) (sym n) (done_known d))) ]
    where
      n : is_move w.order ≡ false
      n = support_no_move w.order h

  pub same_place : (x y : Resolution) → Memᴰ x zs → Memᴰ y zs → x.unit.region ≡ y.unit.region → x ≡ y
  same_place x y i j e = let p = rest.apart x i in let q = rest.apart y j in cc

  -- nobody answers a support that is aimed at a unit that stays
  aimed_known : (x : Resolution) → Memᴰ x zs → is_move x.order ≡ false → (w : Resolution) → Memᴰ w zs → is_support w.order ≡ true → aim w.order ≡ x.unit.region → Known w.value
  unfolding Answered
  aimed_known x i n w j h e =
      elim (answered w j h) [ inl a ↦ absurd (true≢false (sym a.3 ∙ (ap (λ z. is_move z.order) (same_place a.0 x a.1 i (a.2 ∙ e)) ∙ n))) | inr k ↦ k ]

  into_known : (x : Resolution) → Memᴰ x zs → is_move x.order ≡ false → (y : Resolution) → Memᴰ y zs → goes_to x.unit.region y.order ≡ true → Known y.value
  into_known x i n y j g =
      let k = goes_to-aim _ y.order g in
      subst Known (sym (decides_move m y zs y.order k.0) ∙ rest.fixed y j)
      (move_succeeds_known m zs x.unit.region (aimed_known x i n) rest.paths y j k.0 k.1
      (subst (λ w. Calm zs x.unit.region y w) (sym (rest.apart x i)) (refl, λ q _. absurd (true≢false (sym q ∙ n)), λ q. absurd (no_move_head_to_head y x n q))))

  hit_known : {f : Bool} {v b : Tri} → Hit f v b → Known b
  hit_known miss = Known.no
  hit_known hit = Known.yes

  entered_known : (r : ℕ) → ((y : Resolution) → Memᴰ y zs → goes_to r y.order ≡ true → Known y.value) → Known (entered r zs)
  entered_known r h = gather_keeps Known (λ y. goes_to r y.order) (λ y t. or_tri y.value t) Known.no zs (λ y i g _ t. or_known (h y i g) t)

  cut_known : (w : Resolution) → Memᴰ w zs → is_move w.order ≡ false → Known (cut m w zs zs)
  cut_known w i n =
      gather_keeps Known (cuts w) (λ y t. or_tri (greater (attack m y zs) (exactly 0)) t) Known.no zs
      (λ y j g _ t. or_known (hit_known (hits w y i n j (cuts_into w y g))) t)

  pub supports_known : (x : Resolution) → Memᴰ x zs → is_support x.order ≡ true → Known x.value
  supports_known x i h =
      let n = support_no_move x.order h in
      let t = entered_known x.unit.region (into_known x i n) in
      subst Known (sym (decides-support m x zs x.order h) ∙ rest.fixed x i)
      (not_known (or_known (cut_known x i n) (if_known (is_move x.order) (λ q. absurd (true≢false (sym q ∙ n))) (λ _. t))))
