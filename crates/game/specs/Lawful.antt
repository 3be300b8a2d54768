-- Which games are lawful: as named facts, and as one test. Assumes nothing.
use Rattle.std.specs.Prelude.{◌≡◌, ℕ, Bool, true, false, ◌&&◌, ◌||◌, List, [], ◌∷◌, map, length, Some, None, Option, ◌==◌}
use Rattle.values.specs.Fold.{all, distinct}
use Rattle.board.specs.declared.region.Region.{Region}
use Rattle.board.specs.declared.unit.Unit.{Unit}
use Rattle.board.specs.Board.{Board, on_board, stands, is_power}
use Rattle.game.specs.declared.phase.Dislodged.{Dislodged}
use Rattle.game.specs.Game.{Game, is_retreats}

-- the regions of units
abbrev pub places : List Unit → List ℕ
places us = map (λ u. u.region) us

abbrev pub units_in : List Dislodged → List Unit
units_in ds = map (λ d. d.unit) ds

-- the attack came from a region of the board, or over water
abbrev pub from_board : Board → Option ℕ → Bool
from_board m None = true
from_board m (Some r) = on_board m r

-- nobody, or a power that there is, and that only of a centre
abbrev pub good_owner : Region → Option ℕ → Bool
good_owner q None = true
good_owner q (Some p) = q.centre && is_power (Some p)

-- an owner for each region
unfoldable pub good_owners : List Region → List (Option ℕ) → Bool
good_owners [] [] = true
good_owners [] (o ∷ os) = false
good_owners (q ∷ qs) [] = false
good_owners (q ∷ qs) (o ∷ os) = good_owner q o && good_owners qs os

pub record Lawful (m : Board) (g : Game) : Type 0 where
  -- no two units in one region, and each where its kind can be
  pub apart : distinct (places g.units) ≡ true
  pub stand : all (stands m) g.units ≡ true
  -- and so for those dislodged, among themselves
  pub out_apart : distinct (places (units_in g.dislodged)) ≡ true
  pub out_stand : all (stands m) (units_in g.dislodged) ≡ true
  pub out_from : all (λ d. from_board m d.from) g.dislodged ≡ true
  pub owned : good_owners m.regions g.owners ≡ true
  pub on_the_board : all (on_board m) g.barred ≡ true
  -- dislodged and barred only where retreats come next
  pub calm : (is_retreats g.phase || (length g.dislodged == 0 && length g.barred == 0)) ≡ true

-- the same as a test
abbrev pub lawful : Board → Game → Bool
lawful m g =
    distinct (places g.units) && (all (stands m) g.units &&
    (distinct (places (units_in g.dislodged)) && (all (stands m) (units_in g.dislodged) && (all (λ d. from_board m d.from) g.dislodged &&
    (good_owners m.regions g.owners && (all (on_board m) g.barred &&
    (is_retreats g.phase || (length g.dislodged == 0 && length g.barred == 0))))))))
