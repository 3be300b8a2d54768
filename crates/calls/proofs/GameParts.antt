-- The game that the code reads from its parts is the one that they give, and an entry that it can't make is in no lawful game. Assumes nothing.
use Rattle.std.proofs.Common.{◌≡◌, ℕ, Bool, true, false, ◌&&◌, ltb, leb, List, [], ◌∷◌, map, length, Option, sym, refl, ap, ◌∙◌}
use Rattle.std.proofs.lemmas.Bool.{and_parts, and_from, and_right}
use Rattle.values.specs.Fold.{all, distinct, is_in, count_up}
use Rattle.geography.specs.declared.region_set.RegionSet.{RegionSet}
use Rattle.geography.specs.RegionSet.{has, Holds}
use Rattle.board.specs.declared.unit.Unit.{Unit}
use Rattle.board.specs.Board.{Board, on_board, can_stand, stands, powers}
use Rattle.game.specs.declared.phase.Phase.{Phase}
use Rattle.game.specs.declared.phase.Dislodged.{Dislodged}
use Rattle.game.specs.Game.{Game}
use Rattle.game.specs.Lawful.{lawful, places, units_in}
use Rattle.position.specs.Tables.{game_from}
use Rattle.calls.specs.declared.sections.Sections.{Sections}
use Rattle.calls.specs.Words.{at}
use Rattle.calls.specs.Begin.{unit_in, good_unit, dislodged_in, phase_in}
use Rattle.calls.specs.Strict.{unit_on, out_on, game_parts, game_means, game_good}
use Rattle.calls.proofs.Strict.{fails_from, all_from, all_weaker}
use Rattle.calls.proofs.Barred.{select_same}

unit_strict : (m : Board) (ws : List ℕ) → good_unit ws ≡ true → stands m (unit_in ws) ≡ true → unit_on (length m.regions) ws ≡ true
unit_strict m ws good stand =
    let parts = and_parts (can_stand m (unit_in ws).fleet (at ws 1)) (ltb (at ws 0) powers) stand in
    and_from (good_unit ws) (ltb (at ws 0) powers && ltb (at ws 1) (length m.regions)) good
    (and_from (ltb (at ws 0) powers) (ltb (at ws 1) (length m.regions)) parts.1 (and_parts (on_board m (at ws 1)) _ parts.0).0)

out_strict : (m : Board) (ws : List ℕ) → (good_unit ws && leb (at ws 3) (length m.regions)) ≡ true → stands m (unit_in ws) ≡ true → out_on (length m.regions) ws ≡ true
out_strict m ws good stand =
    let parts = and_parts (good_unit ws) (leb (at ws 3) (length m.regions)) good in
    and_from (unit_on (length m.regions) ws) (leb (at ws 3) (length m.regions)) (unit_strict m ws parts.0 stand) parts.1

all_map : {X Y : Type 0} (test : Y → Bool) (f : X → Y) (xs : List X) → all test (map f xs) ≡ all (λ x. test (f x)) xs
unfolding all
all_map test f [] = refl
all_map test f (x ∷ xs) = ap (λ b. test (f x) && b) (all_map test f xs)

units_stand : (m : Board) (g : Game) → lawful m g ≡ true → all (stands m) g.units ≡ true
units_stand m g h = (and_parts (all (stands m) g.units) _ (and_parts (distinct (places g.units)) _ h).1).0

out_stand : (m : Board) (g : Game) → lawful m g ≡ true → all (λ d. stands m d.unit) g.dislodged ≡ true
out_stand m g h =
    let later = (and_parts (all (stands m) g.units) _ (and_parts (distinct (places g.units)) _ h).1).1 in
    sym (all_map (stands m) (λ d. d.unit) g.dislodged) ∙ (and_parts (all (stands m) (units_in g.dislodged)) _ (and_parts (distinct (places (units_in g.dislodged))) _ later).1).0

-- the words of the game that mean something, one test after the other
pub record Means (s : Sections) : Type 0 where
  pub units : all good_unit s.front.units.now ≡ true
  pub owners : all (λ vs. leb (at vs 0) powers) s.front.owners.now ≡ true
  pub phase : ltb s.phase 5 ≡ true
  pub dislodged : all (λ vs. good_unit vs && leb (at vs 3) (length s.front.regions.now)) s.dislodged.now ≡ true
  pub barred : all (λ w. ltb w (length s.front.regions.now)) s.barred.now ≡ true

means : (s : Sections) → game_means s ≡ true → Means s
means s h =
    let a = and_parts (all good_unit s.front.units.now) _ h in
    let b = and_parts (all (λ vs. leb (at vs 0) powers) s.front.owners.now) _ a.1 in
    let c = and_parts (ltb s.phase 5) _ b.1 in
    let d = and_parts (all (λ vs. good_unit vs && leb (at vs 3) (length s.front.regions.now)) s.dislodged.now) _ c.1 in
    record { units = a.0; owners = b.0; phase = c.0; dislodged = d.0; barred = d.1 }

from_means : (s : Sections) → Means s → game_means s ≡ true
from_means s h =
    and_from (all good_unit s.front.units.now) _ h.units
    (and_from (all (λ vs. leb (at vs 0) powers) s.front.owners.now) _ h.owners
    (and_from (ltb s.phase 5) _ h.phase
    (and_from (all (λ vs. good_unit vs && leb (at vs 3) (length s.front.regions.now)) s.dislodged.now) _ h.dislodged h.barred)))

module _ (m : Board) (s : Sections) (same : length m.regions ≡ length s.front.regions.now) where
  pub units_ill : all (unit_on (length s.front.regions.now)) s.front.units.now ≡ false → game_good m s ≡ false
  units_ill bad =
      fails_from (all (unit_on (length s.front.regions.now)) s.front.units.now) (game_good m s)
      (λ good.
      let parts = and_parts (game_means s) (lawful m (game_parts s)) good in
      rw (← same) (all_from good_unit (unit_on (length m.regions)) (stands m) unit_in (unit_strict m) s.front.units.now (means s parts.0).units (units_stand m (game_parts s) parts.1))) bad

  pub dislodged_ill : all (out_on (length s.front.regions.now)) s.dislodged.now ≡ false → game_good m s ≡ false
  dislodged_ill bad =
      fails_from (all (out_on (length s.front.regions.now)) s.dislodged.now) (game_good m s)
      (λ good.
      let parts = and_parts (game_means s) (lawful m (game_parts s)) good in
      all_from (λ vs. good_unit vs && leb (at vs 3) (length s.front.regions.now)) (out_on (length s.front.regions.now)) (λ d. stands m d.unit) dislodged_in (λ vs g t. rw (← same) (out_strict m vs (rw same g) t))
      s.dislodged.now (means s parts.0).dislodged (out_stand m (game_parts s) parts.1)) bad

  pub barred_ill : all (λ w. ltb w (length s.front.regions.now)) s.barred.now ≡ false → game_good m s ≡ false
  barred_ill bad =
      fails_from (all (λ w. ltb w (length s.front.regions.now)) s.barred.now) (game_good m s)
      (λ good. (means s (and_parts (game_means s) (lawful m (game_parts s)) good).0).barred) bad

  pub lawful_ill : lawful m (game_parts s) ≡ false → game_good m s ≡ false
  lawful_ill bad = and_right (game_means s) (lawful m (game_parts s)) bad

  -- what the code read makes the game of the parts
  pub record Gathered (phase : Phase) (us : List Unit) (ds : List Dislodged) (barred : RegionSet) (os : List (Option ℕ)) : Type 0 where
    pub in_phase : phase_in s.phase ≡ phase
    pub units_are : us ≡ (game_parts s).units
    pub dislodged_are : ds ≡ (game_parts s).dislodged
    pub barred_are : Holds barred s.barred.now
    pub owners_are : os ≡ (game_parts s).owners

  pub game_is : (phase : Phase) (us : List Unit) (ds : List Dislodged) (barred : RegionSet) (os : List (Option ℕ)) → Gathered phase us ds barred os → game_from (length m.regions) phase us ds barred os ≡ game_parts s
  game_is phase us ds barred os h =
      let phases = h.in_phase in
      let units = h.units_are in
      let dislodged = h.dislodged_are in
      let owners = h.owners_are in
      let shut = select_same (has barred) (λ r. is_in r s.barred.now) h.barred_are (count_up 0 (length s.front.regions.now)) in
      rw (same, ← phases, units, dislodged, owners, shut) refl

  pub read_well : ltb s.phase 5 ≡ true → all (λ w. ltb w (length s.front.regions.now)) s.barred.now ≡ true → all (unit_on (length s.front.regions.now)) s.front.units.now ≡ true →
      all (λ vs. leb (at vs 0) powers) s.front.owners.now ≡ true → all (out_on (length s.front.regions.now)) s.dislodged.now ≡ true →
      lawful m (game_parts s) ≡ true → game_good m s ≡ true
  read_well phase barred units owners dislodged law =
      and_from (game_means s) (lawful m (game_parts s))
      (from_means s
      record {
        units = all_weaker (unit_on (length s.front.regions.now)) good_unit (λ vs h. (and_parts (good_unit vs) _ h).0) s.front.units.now units;
        owners = owners;
        phase = phase;
        dislodged = all_weaker (out_on (length s.front.regions.now)) (λ vs. good_unit vs && leb (at vs 3) (length s.front.regions.now)) weaker s.dislodged.now dislodged;
        barred = barred;
      }) law
    where
      weaker : (vs : List ℕ) → out_on (length s.front.regions.now) vs ≡ true → (good_unit vs && leb (at vs 3) (length s.front.regions.now)) ≡ true
      weaker vs h =
          let parts = and_parts (unit_on (length s.front.regions.now) vs) (leb (at vs 3) (length s.front.regions.now)) h in
          and_from (good_unit vs) (leb (at vs 3) (length s.front.regions.now)) (and_parts (good_unit vs) _ parts.0).0 parts.1
