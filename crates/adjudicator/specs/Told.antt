-- What a phase tells: after moves the reports, else nothing. Assumes nothing.
use Rattle.std.specs.Prelude.{cond, List, Some, None, vec_items, Option, Vec}
use Rattle.std.specs.declared.alloc.Global.{Global}
use Rattle.board.specs.Board.{Board}
use Rattle.deciding.specs.declared.report.Report.{Report}
use Rattle.deciding.specs.Outcome.{reports}
use Rattle.game.specs.declared.text.Written.{Written}
use Rattle.game.specs.Game.{Game, is_moves}
use Rattle.game.specs.Texts.{ordered}

abbrev pub told_in : Board → Game → List Written → Option (List Report)
told_in m g ws = cond (is_moves g.phase) (Some (reports m (ordered g.units ws))) None

-- the code's table as a list
abbrev pub told : Option (Vec Report Global) → Option (List Report)
told None = None
told (Some v) = Some (vec_items v)
