-- What a phase of moves leaves, in the code's tables. Assumes nothing.
use Rattle.std.specs.Prelude.{◌≡◌, List, vec_items}
use Rattle.geography.specs.RegionSet.{Holds}
use Rattle.board.specs.Board.{Board}
use Rattle.deciding.specs.Outcome.{Ordered, outcome, reports}
use Rattle.game.specs.AfterMoves.{standing, displaced, contested}
use Rattle.values.specs.Shuffle.{Shuffled}
use Rattle.assignment.specs.declared.resolution.Resolution.{Resolution}
use Rattle.order_laws.specs.Edges.{SameBoard}
use Rattle.order_laws.specs.Deciding.{SameReports}
use Rattle.adjudicator.specs.declared.moves.Moved.{Moved}

pub record MovedBy (m : Board) (os : List Ordered) (r : Moved) : Type 0 where
  pub units : vec_items r.units ≡ standing (outcome m os)
  pub dislodged : vec_items r.dislodged ≡ displaced (outcome m os)
  pub barred : Holds r.barred (contested m (outcome m os))
  pub reports : vec_items r.reports ≡ reports m os

-- the same orders in another order, on a board drawn another way: the same is told of each unit
abbrev pub SameOutcome : Board → List Ordered → Type 0
SameOutcome m os = (n : Board) (ps : List Ordered) → SameBoard m n → Shuffled Ordered os ps → Shuffled Resolution (outcome m os) (outcome n ps) × SameReports (reports m os) (reports n ps)
