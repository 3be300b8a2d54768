-- In every consistent assignment of units apart, no two moves succeed into one region: each would have more support than the other.
use Rattle.std.proofs.Common.{◌≡◌, ℕ, ◌+◌, ◌<◌, ◌≤◌, Bool, true, false, cond, not, ◌&&◌, eqb, List, Some, None, Option, sym, refl, ap, ◌∙◌, subst, arith}
use mathlib.Core.List.{Memᴰ}
use Rattle.std.proofs.lemmas.Bool.{true≢false, eqb-true, eqb-false, ne_eqb, and_parts, and_from, or_left}
use Rattle.values.specs.Fold.{distinct}
use Rattle.values.specs.declared.tri.Tri.{Tri}
use Rattle.values.specs.declared.tri.Tri.TheVariants.{No, Open, Yes}
use Rattle.values.specs.Tri.{is_yes, is_open}
use Rattle.values.specs.declared.span.Span.{Span}
use Rattle.values.specs.Span.{exactly, sum, greater, either, counted}
use Rattle.board.specs.Board.{Board}
use Rattle.board.specs.Order.{goes_to, is_move, is_support, aim}
use Rattle.assignment.specs.declared.resolution.Resolution.{Resolution}
use Rattle.assignment.specs.Assignment.{who}
use Rattle.paths.specs.Paths.{path}
use Rattle.strength.specs.Strength.{support, backs, support_for, head_to_head, vacates, full, against, attack_on, attack, prevent_of, prevent, to_beat}
use Rattle.strength.specs.Decide.{rival, beats_rivals}
use Rattle.deciding_laws.specs.Assignments.{Consistent}
use Rattle.deciding_laws.specs.Dislodged.{came}
use Rattle.deciding_laws.proofs.Along.{gather_keeps, goes_to-acts}
use Rattle.deciding_laws.proofs.Places.{spots, who_there, who_in}
use Rattle.deciding_laws.proofs.Folds.{yes_and, yes_each}
use Rattle.deciding_laws.proofs.Exact.{support_le, goes_to-aim, head_to_head_parts}
use Rattle.deciding_laws.proofs.SupportsDecided.{decides_move}

head_to_head_sym : (x y : Resolution) → head_to_head x y ≡ true → head_to_head y x ≡ true
head_to_head_sym x y e = grind arith

either_low : (t : Tri) (a b : Span) (n : ℕ) → a.least ≤ n → b.least ≤ n → (either t a b).least ≤ n
either_low t a b n p q = grind arith

either_some : (t : Tri) (a : Span) → 1 ≤ (either t a (exactly 0)).least → t ≡ Yes
either_some t a h = grind arith

yes_greater : (a b : Span) → greater a b ≡ Yes → b.greatest < a.least
yes_greater a b e = grind arith

yes_is : (t : Tri) → is_yes t ≡ true → t ≡ Yes
yes_is t e = grind arith

record Fair (s : Span) : Type 0 where
  fair : s.least ≤ s.greatest

counted_fair : (t : Tri) → (counted t).least ≤ (counted t).greatest
counted_fair t = grind arith

pub support_fair : (p : Resolution → Bool) (zs : List Resolution) → (support p zs).least ≤ (support p zs).greatest
support_fair p zs = (gather_keeps Fair p (λ y s. sum (counted y.value) s) (record { fair = omega arith }) zs (λ x _ _ s h. record { fair = omega (arith, counted_fair x.value, h.fair) })).fair

-- what came, by parts
pub came_parts : (t : ℕ) (y : Resolution) → came t y ≡ true → (is_move y.order ≡ true) × (aim y.order ≡ t) × (is_yes y.value ≡ true)
came_parts t y c = grind arith

module _ (m : Board) (zs : List Resolution) (consistent : Consistent m zs) (sole : distinct (spots zs) ≡ true) where
  attack_on_low : (y : Resolution) (w : Option Resolution) → (attack_on y zs w).least ≤ 1 + (support_for y zs).greatest
  attack_on_low y None = omega (arith, support_fair (backs y) zs)
  attack_on_low y (Some z) = either_low (vacates y z) (full y zs) (against y zs z) (1 + (support_for y zs).greatest) (omega (arith, support_fair (backs y) zs)) (go (eqb y.unit.power z.unit.power))
    where
      foreign : Resolution → Bool
      foreign u = backs y u && not (eqb z.unit.power u.unit.power)

      go : (b : Bool) → (cond b (exactly 0) (sum (exactly 1) (support foreign zs))).least ≤ 1 + (support_for y zs).greatest
      go true = omega arith
      go false = omega (arith, support_fair foreign zs, support_le foreign (backs y) zs (λ u k. (and_parts (backs y u) (not (eqb z.unit.power u.unit.power)) k).0))

  attack_low : (y : Resolution) → (attack m y zs).least ≤ 1 + (support_for y zs).greatest
  unfolding attack
  attack_low y = either_low (path m y zs) (attack_on y zs (who (aim y.order) zs)) (exactly 0) (1 + (support_for y zs).greatest) (attack_on_low y (who (aim y.order) zs)) (omega arith)

  -- a move that succeeded
  pub record Won (y : Resolution) : Type 0 where
    pub more_than : (to_beat y zs (who (aim y.order) zs)).greatest < (attack m y zs).least
    pub alone : beats_rivals m (attack m y zs) y zs zs ≡ Yes
    pub has-path : path m y zs ≡ Yes

  pub won : (y : Resolution) → Memᴰ y zs → is_move y.order ≡ true → is_yes y.value ≡ true → Won y
  unfolding attack
  won y j k c =
      let f = sym (decides_move m y zs y.order k) ∙ (consistent.fits y j (or_left (is_move y.order) (is_support y.order) k) ∙ yes_is y.value c) in
      let h = yes_and (greater (attack m y zs) (to_beat y zs (who (aim y.order) zs))) (beats_rivals m (attack m y zs) y zs zs) f in
      let l = yes_greater (attack m y zs) (to_beat y zs (who (aim y.order) zs)) h.0 in
      record { more_than = l; alone = h.1; has-path = either_some (path m y zs) (attack_on y zs (who (aim y.order) zs)) (omega (arith, l)) }

  -- two head to head can't both succeed
  half : (y z : Resolution) → Won y → who (aim y.order) zs ≡ Some z → head_to_head y z ≡ true → (support_for z zs).greatest < (support_for y zs).greatest
  half y z p e f =
      let t : to_beat y zs (who (aim y.order) zs) ≡ full z zs = rw (e, f) in
      omega (arith, p.more_than, ap (λ s. s.greatest) t, attack_low y)

  not_both : (y z : Resolution) → Memᴰ y zs → Memᴰ z zs → head_to_head y z ≡ true → is_yes y.value ≡ true → is_yes z.value ≡ true → ⊥
  not_both y z i j f c d =
      let gy = goes_to-aim z.unit.region y.order (head_to_head_parts y z f).1 in
      let gz = goes_to-aim y.unit.region z.order (head_to_head_parts y z f).0 in
      let wy : who (aim y.order) zs ≡ Some z = ap (λ r. who r zs) gy.1 ∙ who_there zs sole z j in
      let wz : who (aim z.order) zs ≡ Some y = ap (λ r. who r zs) gz.1 ∙ who_there zs sole y i in
      omega (arith, half y z (won y i gy.0 c) wy f, half z y (won z j gz.0 d) wz (head_to_head_sym y z f))

  prevent_of_whole : (t : ℕ) (y : Resolution) → Memᴰ y zs → came t y ≡ true → (w : Option Resolution) → who t zs ≡ w → prevent_of y zs w ≡ full y zs
  prevent_of_whole t y i c None e = refl
  prevent_of_whole t y i c (Some z) e = go (head_to_head y z) refl z.value refl
    where
      z_in : Memᴰ z zs
      z_in = (who_in t zs z e).0

      go : (b : Bool) → head_to_head y z ≡ b → (v : Tri) → z.value ≡ v → cond b (either v (exactly 0) (full y zs)) (full y zs) ≡ full y zs
      go false f v g = refl
      go true f No g = refl
      go true f Open g = absurd (true≢false (sym (ap is_open g) ∙ consistent.known z z_in (goes_to-acts y.unit.region z.order (head_to_head_parts y z f).0)))
      go true f Yes g = absurd (not_both y z i z_in f (came_parts t y c).2 (ap is_yes g))

  prevent_whole : (t : ℕ) (y : Resolution) → Memᴰ y zs → came t y ≡ true → prevent m y zs ≡ full y zs
  unfolding prevent
  prevent_whole t y i c =
      let h = came_parts t y c in
      let w = won y i h.0 h.2 in
      let q = ap (λ r. prevent_of y zs (who r zs)) h.1 ∙ prevent_of_whole t y i c (who t zs) refl in
      λ k. either (w.has-path k) (q k) (exactly 0)

  pub one_enters : (t : ℕ) (y z : Resolution) → Memᴰ y zs → came t y ≡ true → Memᴰ z zs → came t z ≡ true → y.unit.region ≡ z.unit.region
  one_enters t y z i c j d = go (eqb y.unit.region z.unit.region) refl
    where
      beaten : (v w : Resolution) → Memᴰ v zs → came t v ≡ true → Memᴰ w zs → came t w ≡ true → eqb v.unit.region w.unit.region ≡ false → (support_for w zs).greatest < (support_for v zs).greatest
      beaten v w i c j d n =
          let hv = came_parts t v c in
          let g : goes_to (aim v.order) w.order ≡ true = subst (λ r. goes_to r w.order ≡ true) (sym hv.1) (and_parts (goes_to t w.order) (is_yes w.value) d).0 in
          let b = yes_each (rival v) (λ y. greater (attack m v zs) (prevent m y zs)) zs (won v i hv.0 hv.2).alone w j (and_from (goes_to (aim v.order) w.order) (not (eqb v.unit.region w.unit.region)) g (ap not n)) in
          omega (arith, yes_greater (attack m v zs) (prevent m w zs) b, attack_low v, ap (λ s. s.greatest) (prevent_whole t w j d))

      go : (b : Bool) → eqb y.unit.region z.unit.region ≡ b → y.unit.region ≡ z.unit.region
      go true e = eqb-true _ _ e
      go false e =
          let f : eqb z.unit.region y.unit.region ≡ false = ne_eqb _ _ (λ r. eqb-false _ _ e (sym r)) in
          absurd (omega (arith, beaten y z i c j d e, beaten z y j d i c f))
