-- What is answered to a line, and what stands afterwards. Assumes nothing.
use Rattle.std.specs.Prelude.{ℕ, cond, List, [], ◌∷◌, ◌++◌, length, Some, None, vec_items, codes, Option}
use Rattle.board.specs.Board.{Board}
use Rattle.deciding.specs.declared.report.Report.{Report}
use Rattle.game.specs.Game.{Game, is_moves}
use Rattle.lines.specs.declared.call.Key.{Key}
use Rattle.lines.specs.declared.call.Key.TheVariants.{Begin, Turn}
use Rattle.lines.specs.Calls.{Called, call_in}
use Rattle.lines.specs.Print.{line_bytes}
use Rattle.calls.specs.declared.verdict.Verdict.{Verdict}
use Rattle.calls.specs.Verdict.{number, is_accepted}
use Rattle.calls.specs.Begin.{begin_verdict, begin_board, begin_game}
use Rattle.calls.specs.Turn.{turn_verdict, turn_game, turn_last}
use Rattle.position.specs.Position.{board_of, game_of}
use Rattle.adjudicator.specs.declared.referee.Adjudicator.{Adjudicator}
use Rattle.answers.specs.Words.{game_words, last_words}

-- what stands: a board, a game, and what was told of the last phase of moves
pub record Standing : Type 0 where
  pub board : Board
  pub game : Game
  pub last : List Report

abbrev pub stood_by : Adjudicator → Standing
stood_by a = record { board = board_of a.position; game = game_of a.position; last = vec_items a.last }

abbrev pub after_begin : Standing → List ℕ → Standing
after_begin s ws = record { board = begin_board s.board ws; game = begin_game s.game ws; last = s.last }

abbrev pub after_turn : Standing → List ℕ → Standing
after_turn s ws = record { board = s.board; game = turn_game s.board s.game ws; last = turn_last s.board s.game ws s.last }

abbrev pub game_line : Standing → List ℕ
game_line s = line_bytes (codes "game") (game_words (length s.board.regions) s.game)

abbrev pub last_line : Standing → List ℕ
last_line s = line_bytes (codes "last") (last_words (length s.board.regions) s.last)

abbrev pub verdict_line : List ℕ → Verdict → List ℕ
verdict_line key v = line_bytes key (number v ∷ [])

-- after the verdict, what stands if it is accepted
abbrev pub begin_bytes : Standing → List ℕ → List ℕ
begin_bytes s ws = verdict_line (codes "begin") (begin_verdict ws) ++ cond (is_accepted (begin_verdict ws)) (game_line (after_begin s ws)) []

-- and what was told, after a phase of moves
abbrev pub turn_bytes : Standing → List ℕ → List ℕ
turn_bytes s ws =
    verdict_line (codes "turn") (turn_verdict s.board ws) ++
    cond (is_accepted (turn_verdict s.board ws)) (cond (is_moves s.game.phase) (last_line (after_turn s ws)) [] ++ game_line (after_turn s ws)) []

abbrev pub key_after : Standing → Key → List ℕ → Standing
key_after s Begin ws = after_begin s ws
key_after s Turn ws = after_turn s ws

abbrev pub key_bytes : Standing → Key → List ℕ → List ℕ
key_bytes s Begin ws = begin_bytes s ws
key_bytes s Turn ws = turn_bytes s ws

abbrev pub called_after : Standing → Option Called → Standing
called_after s None = s
called_after s (Some c) = key_after s c.key c.words

-- a line that is no call is answered by a question mark
abbrev pub called_bytes : Standing → Option Called → List ℕ
called_bytes s None = codes "?\n"
called_bytes s (Some c) = key_bytes s c.key c.words

abbrev pub after : Standing → List ℕ → Standing
after s line = called_after s (call_in line)

abbrev pub answer_bytes : Standing → List ℕ → List ℕ
answer_bytes s line = called_bytes s (call_in line)

-- line after line
unfoldable pub all_bytes : Standing → List (List ℕ) → List ℕ
all_bytes s [] = []
all_bytes s (l ∷ ls) = answer_bytes s l ++ all_bytes (after s l) ls
