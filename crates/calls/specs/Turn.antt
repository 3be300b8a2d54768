-- What was written for a phase, as words, and the verdict on it. Assumes nothing.
use Rattle.std.specs.Prelude.{ℕ, ◌/◌, ◌%◌, Bool, true, false, cond, not, ◌&&◌, List, length, ◌==◌, nat_le, nat_lt}
use Rattle.board.specs.declared.order.Order.TheVariants.{Hold, Move, SupportHold, SupportMove, Convoy}
use Rattle.board.specs.Board.{Board, powers}
use Rattle.deciding.specs.declared.report.Report.{Report}
use Rattle.deciding.specs.Outcome.{reports}
use Rattle.game.specs.declared.text.Text.{Text}
use Rattle.game.specs.declared.text.Text.TheVariants.{Command, Build, Disband}
use Rattle.game.specs.declared.text.Written.{Written}
use Rattle.game.specs.Game.{Game, is_moves}
use Rattle.game.specs.Texts.{ordered}
use Rattle.game.specs.Turn.{turn}
use Rattle.calls.specs.declared.verdict.Verdict.{Verdict}
use Rattle.calls.specs.declared.verdict.Verdict.TheVariants.{Accepted, Misfit, BadText}
use Rattle.calls.specs.Verdict.{is_accepted}
use Rattle.calls.specs.Words.{at, entries, every_entry}

-- kinds 0 to 8, with two regions
abbrev pub text_in : ℕ → ℕ → ℕ → Text
text_in k a b =
    cond (k == 1) (Command (Move a false)) (cond (k == 2) (Command (Move a true)) (cond (k == 3) (Command (SupportHold a)) (cond (k == 4) (Command (SupportMove a b))
    (cond (k == 5) (Command (Convoy a b)) (cond (k == 6) (Build false) (cond (k == 7) (Build true) (cond (k == 8) Disband (Command Hold))))))))

-- five words: power, region, kind, and two regions
abbrev pub written_in : List ℕ → Written
written_in ws = record { power = at ws 0; region = at ws 1; text = text_in (at ws 2) (at ws 3) (at ws 4) }

-- a power, a region of the board and a kind that are there; the last two words below 128
abbrev pub good_text : ℕ → List ℕ → Bool
good_text n ws = nat_lt (at ws 0) powers && (nat_lt (at ws 1) n && (nat_lt (at ws 2) 9 && (nat_lt (at ws 3) 128 && nat_lt (at ws 4) 128)))

abbrev pub text_count : List ℕ → ℕ
text_count ws = length ws / 5

abbrev pub texts_in : List ℕ → List Written
texts_in ws = entries (text_count ws) 5 written_in ws

-- five words each, at most 512 texts
abbrev pub texts_fit : List ℕ → Bool
texts_fit ws = length ws % 5 == 0 && nat_le (length ws) 2560

-- the verdict on texts for a board of n regions
abbrev pub texts_verdict : ℕ → List ℕ → Verdict
texts_verdict n ws = cond (not (texts_fit ws)) Misfit (cond (not (every_entry (text_count ws) 5 (good_text n) ws)) BadText Accepted)

abbrev pub turn_verdict : Board → List ℕ → Verdict
turn_verdict m ws = texts_verdict (length m.regions) ws

abbrev pub turn_game : Board → Game → List ℕ → Game
turn_game m g ws = cond (is_accepted (turn_verdict m ws)) (turn m g (texts_in ws)) g

-- what was told of the last phase of moves
abbrev pub turn_last : Board → Game → List ℕ → List Report → List Report
turn_last m g ws last = cond (is_accepted (turn_verdict m ws) && is_moves g.phase) (reports m (ordered g.units (texts_in ws))) last
