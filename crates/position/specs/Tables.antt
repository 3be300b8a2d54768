-- Boards and games from the lists that the code's tables hold. Assumes nothing.
use Rattle.std.specs.Prelude.{ℕ, Bool, ◌&&◌, List, length, vec_items, Option}
use Rattle.values.specs.Fold.{those, all, distinct}
use Rattle.geography.specs.declared.links.Edge.{Edge}
use Rattle.geography.specs.declared.region_set.RegionSet.{RegionSet}
use Rattle.geography.specs.RegionSet.{has}
use Rattle.board.specs.declared.region.Region.{Region}
use Rattle.board.specs.declared.unit.Unit.{Unit}
use Rattle.board.specs.declared.atlas.Atlas.{Atlas}
use Rattle.board.specs.Board.{Board, stands}
use Rattle.game.specs.declared.phase.Phase.{Phase}
use Rattle.game.specs.declared.phase.Dislodged.{Dislodged}
use Rattle.game.specs.Game.{Game}
use Rattle.game.specs.Lawful.{places, units_in, from_board}

abbrev pub board_from : List Region → List Edge → List Edge → Board
board_from regions march sail = record { regions = regions; march = march; sail = sail }

-- a game on n regions
abbrev pub game_from : ℕ → Phase → List Unit → List Dislodged → RegionSet → List (Option ℕ) → Game
game_from n phase units dislodged barred owners =
    record { phase = phase; units = units; dislodged = dislodged; barred = those n (has barred); owners = owners }

-- a game on the code's board
abbrev pub game_on : Atlas → Phase → List Unit → List Dislodged → RegionSet → List (Option ℕ) → Game
game_on a phase units dislodged barred owners = game_from (length (vec_items a.regions)) phase units dislodged barred owners

-- units and those dislodged, each where they can be
abbrev pub placed_on : Board → List Unit → List Dislodged → Bool
placed_on m us ds =
    (distinct (places us) && all (stands m) us) && ((distinct (places (units_in ds)) && all (stands m) (units_in ds)) && all (λ d. from_board m d.from) ds)
