-- The referee's two calls, one after another: what stands after them. Assumes nothing.
use Rattle.std.specs.Prelude.{List, [], ◌∷◌, ℕ}
use Rattle.board.specs.Board.{Board}
use Rattle.deciding.specs.declared.report.Report.{Report}
use Rattle.game.specs.declared.phase.Phase.TheVariants.{SpringMoves}
use Rattle.game.specs.Game.{Game}
use Rattle.calls.specs.declared.verdict.Verdict.{Verdict}
use Rattle.calls.specs.Begin.{begin_verdict, begin_board, begin_game}
use Rattle.calls.specs.Turn.{turn_verdict, turn_game, turn_last}

-- a call, with its words
pub data Call : Type 0 where
  begin : List ℕ → Call
  turn : List ℕ → Call

-- the board, the game, and what was told of the last phase of moves
pub record State : Type 0 where
  pub board : Board
  pub game : Game
  pub last : List Report

-- before any call: no regions, no units
abbrev pub start : State
start = record { board = record { regions = []; march = []; sail = [] }; game = record { phase = SpringMoves; units = []; dislodged = []; barred = []; owners = [] }; last = [] }

abbrev pub verdict : State → Call → Verdict
verdict s (begin ws) = begin_verdict ws
verdict s (turn ws) = turn_verdict s.board ws

-- what stands after one call, and after many
abbrev pub answer : State → Call → State
answer s (begin ws) = record { board = begin_board s.board ws; game = begin_game s.game ws; last = s.last }
answer s (turn ws) = record { board = s.board; game = turn_game s.board s.game ws; last = turn_last s.board s.game ws s.last }

unfoldable pub answered : State → List Call → State
answered s [] = s
answered s (c ∷ cs) = answered (answer s c) cs
