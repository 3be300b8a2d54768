-- Whoever is dislodged is so by one move, as one enters each region; and of a foreign power, as nobody attacks a unit of its own that stays.
use Rattle.std.proofs.Common.{◌≡◌, Bool, true, false, cond, not, ◌&&◌, eqb, List, Some, refl, ap, ◌∙◌, arith}
use mathlib.Core.List.{Memᴰ}
use Rattle.values.specs.Fold.{distinct}
use Rattle.values.specs.declared.tri.Tri.{Tri}
use Rattle.values.specs.declared.tri.Tri.TheVariants.{No, Yes}
use Rattle.values.specs.Tri.{not_tri, and_tri, is_yes}
use Rattle.values.specs.declared.span.Span.{Span}
use Rattle.values.specs.Span.{exactly, either}
use Rattle.board.specs.Board.{Board}
use Rattle.board.specs.Order.{goes_to, is_move, aim}
use Rattle.assignment.specs.declared.resolution.Resolution.{Resolution}
use Rattle.assignment.specs.Assignment.{who, entered, dislodged}
use Rattle.paths.specs.Paths.{path}
use Rattle.strength.specs.Strength.{head_to_head, vacates, full, attack}
use Rattle.deciding.specs.Outcome.{Ordered, outcome}
use Rattle.deciding_laws.specs.Assignments.{Apart, Consistent}
use Rattle.deciding_laws.specs.Dislodged.{came, ByOneForeigner, DislodgedByOne}
use Rattle.deciding_laws.proofs.Places.{spots, who_there}
use Rattle.deciding_laws.proofs.Folds.{or_some, select_one}
use Rattle.deciding_laws.proofs.Consistent.{outcome-apart, outcome_consistent}
use Rattle.deciding_laws.proofs.OneEntersEach.{came_parts, won, one_enters}

entered_of : (b : Bool) (v t : Tri) → cond b (and_tri (not_tri v) t) t ≡ Yes → (t ≡ Yes) × (b ≡ true → v ≡ No)
entered_of b v t e = grind arith

came_of : (a : Bool) (v : Tri) → a ≡ true → v ≡ Yes → (a && is_yes v) ≡ true
came_of a v e f = grind arith

either_zero : (t s : Tri) (a : Span) → s ≡ No → (either t (either s a (exactly 0)) (exactly 0)).least ≡ 0
either_zero t s a e = grind arith

module _ (m : Board) (zs : List Resolution) (consistent : Consistent m zs) (sole : distinct (spots zs) ≡ true) where
  -- on a unit of its own power that stays, y's attack is none
  own_spared : (x y : Resolution) → Memᴰ x zs → (is_move x.order ≡ true → x.value ≡ No) → aim y.order ≡ x.unit.region → eqb y.unit.power x.unit.power ≡ true → (attack m y zs).least ≡ 0
  unfolding attack
  own_spared x y i s a e =
      let w : who (aim y.order) zs ≡ Some x = ap (λ r. who r zs) a ∙ who_there zs sole x i in
      rw (w, e) (either_zero (path m y zs) (vacates y x) (full y zs) (stays (is_move x.order) (head_to_head y x) x.value s))
    where
      stays : (b c : Bool) (v : Tri) → (b ≡ true → v ≡ No) → cond (b && not c) v No ≡ No
      stays b c v s = grind arith

  pub by_one : (x : Resolution) → Memᴰ x zs → dislodged x zs ≡ Yes → ByOneForeigner zs x
  by_one x i e =
      let d = entered_of (is_move x.order) x.value (entered x.unit.region zs) e in
      let q = or_some (λ y. goes_to x.unit.region y.order) (λ y. y.value) zs d.0 in
      let c : came x.unit.region q.0 ≡ true = came_of (goes_to x.unit.region q.0.order) q.0.value q.2 q.3 in
      record {
        by = q.0;
        alone = select_one (came x.unit.region) q.0 c zs sole q.1 (λ z j k. one_enters m zs consistent sole x.unit.region z q.0 j k q.1 c);
        foreign = go q.0 q.1 c d.1 (eqb q.0.unit.power x.unit.power) refl;
      }
    where
      go : (y : Resolution) → Memᴰ y zs → came x.unit.region y ≡ true → (is_move x.order ≡ true → x.value ≡ No) → (b : Bool) → eqb y.unit.power x.unit.power ≡ b → b ≡ false
      go y j c s false f = refl
      go y j c s true f =
          let h = came_parts x.unit.region y c in
          absurd (omega (arith, (won m zs consistent sole y j h.0 h.2).more_than, own_spared x y i s h.1 f))

pub outcome_is_consistent : (m : Board) (os : List Ordered) → Apart os → Consistent m (outcome m os)
outcome_is_consistent m os a = let c = outcome_consistent m os a in record { known = λ y i _. c.known y i; fits = λ y i _. c.fits y i }

pub dislodged_by_one : DislodgedByOne
dislodged_by_one m os a = by_one m (outcome m os) (outcome_is_consistent m os a) (outcome-apart m os a)
