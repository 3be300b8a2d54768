-- For each region who came into it. Assumes nothing.
use Rattle.std.specs.Prelude.{ℕ, Bool, cond, ◌&&◌, List, map, Some, None, Option}
use Rattle.std.proofs.Props.{props}
use Rattle.values.specs.Fold.{gather}
use Rattle.values.specs.Tri.{is_yes, is_no}
use Rattle.values.specs.declared.tri.Tri.{Tri}
use Rattle.board.specs.Board.{Board}
use Rattle.board.specs.Order.{is_move, is_convoyed}
use Rattle.assignment.specs.declared.resolution.Resolution.{Resolution}
use Rattle.paths.specs.Paths.{path}
use Rattle.game.specs.AfterMoves.{came}
use Rattle.tables.specs.ByRegion.{ByRegion}
use Rattle.aftermath.specs.declared.after_moves.Arrival.{Arrival}
use Rattle.aftermath.specs.declared.after_moves.Arrival.TheVariants.{From, OverWater}

abbrev pub arrival_of : Resolution → Arrival
arrival_of x = cond (is_convoyed x.order) OverWater (From x.unit.region)

abbrev pub arrival_in : ℕ → List Resolution → Option Arrival
arrival_in r xs = gather (came r) (λ x rest. Some (arrival_of x)) None xs

-- the region it came from, unless it came over water
abbrev pub origin : Arrival → Option ℕ
origin (From r) = Some r
origin OverWater = None

abbrev pub Arrived : List (Option Arrival) → List Resolution → Type 0
Arrived table xs = ByRegion None arrival_in table xs

-- in one way at most
pub Arrived-prop : (table : List (Option Arrival)) (xs : List Resolution) → IsProp (Arrived table xs)
unfolding ByRegion
Arrived-prop table xs = hlevel props

-- a move that succeeded
abbrev pub succeeded : Resolution → Bool
succeeded x = is_move x.order && is_yes x.value

-- a move that has a path and came to nothing
abbrev pub repelled : Resolution → Tri → Bool
repelled x t = is_move x.order && (is_no x.value && is_yes t)

-- the path of each
abbrev pub paths_of : Board → List Resolution → List Tri
paths_of m xs = map (λ x. path m x xs) xs
