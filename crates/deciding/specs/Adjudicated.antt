-- What an adjudication says of orders as played, nothing decided yet. Assumes nothing.
use Rattle.std.specs.Prelude.{◌≡◌, List, map, vec_items}
use Rattle.board.specs.Board.{Board}
use Rattle.assignment.specs.declared.resolution.Resolution.{Resolution}
use Rattle.paths.specs.Paths.{paths_of, dislodged_of}
use Rattle.deciding.specs.declared.adjudication.Adjudication.{Adjudication}
use Rattle.deciding.specs.Outcome.{settle, close, report_one}

pub record Adjudicated (m : Board) (xs : List Resolution) (a : Adjudication) : Type 0 where
  pub settled : vec_items a.settled ≡ settle m xs
  pub outcome : vec_items a.outcome ≡ close (settle m xs)
  pub reports : vec_items a.reports ≡ map (report_one (close (settle m xs))) (settle m xs)
  pub dislodged : vec_items a.dislodged ≡ dislodged_of (close (settle m xs))
  pub paths : vec_items a.paths ≡ paths_of m (close (settle m xs))
