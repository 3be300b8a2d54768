-- What the programs print for the bytes of a board's, a game's and an orders' file. Assumes nothing.
use Rattle.std.specs.Prelude.{ℕ, zero, suc, ◌+◌, ◌-◌, Bool, true, false, cond, List, [], ◌∷◌, ◌++◌, length, Ok, Err, Result, ◌==◌, nat_lt}
use Rattle.board.specs.Board.{Board}
use Rattle.game.specs.declared.phase.Phase.{Phase}
use Rattle.std.specs.Option.{unwrap_or}
use Rattle.game.specs.Number.{phase_number}
use Rattle.game.specs.declared.text.Written.{Written}
use Rattle.game.specs.Game.{Game}
use Rattle.game.specs.Turn.{turn}
use Rattle.calls.specs.declared.verdict.Verdict.{Verdict}
use Rattle.calls.specs.declared.verdict.Verdict.TheVariants.{Accepted, Misfit, BadText, Unlawful}
use Rattle.calls.specs.Verdict.{number, is_accepted}
use Rattle.calls.specs.Begin.{begin_verdict, board_in, game_in}
use Rattle.calls.specs.Turn.{turn_verdict, turn_game, texts_in}
use Rattle.text.specs.declared.refusal.Reason.{Reason}
use Rattle.text.specs.declared.refusal.Reason.TheVariants.{Misfit as MisfitFile, BadText as BadTextFile, Unlawful as UnlawfulFile}
use Rattle.text.specs.declared.refusal.Refusal.{Refusal}
use Rattle.text.specs.Refusal.{number as reason_number}
use Rattle.text.specs.BoardFile.{board_file}
use Rattle.text.specs.GameFile.{game_file}
use Rattle.text.specs.OrdersFile.{Texts, orders_file}
use Rattle.text.specs.Files.{begin_words}
use Rattle.show.specs.Words.{Names}
use Rattle.show.specs.Game.{game_bytes}
use Rattle.show.specs.Reports.{phase_bytes}
use Rattle.show.specs.Refusal.{refusal_bytes}
use Rattle.session.specs.declared.program.Program.{Program}
use Rattle.session.specs.declared.program.Program.TheVariants.{Referee, Season, Record}

-- ---- opening: the board's file, then the game's, then both together

-- what a game begins with
pub record Opening : Type 0 where
  pub names : Names
  pub board : Board
  pub game : Game

-- the first refusal ends the reading
abbrev pub and_then : {A B : Type 0} → Result A Refusal → (A → Result B Refusal) → Result B Refusal
and_then (Ok x) others = others x
and_then (Err e) others = Err e

-- why files are refused whose words got this verdict; acceptance is never asked
abbrev pub reason_of : Verdict → Reason
reason_of Accepted = MisfitFile
reason_of Misfit = MisfitFile
reason_of BadText = BadTextFile
reason_of Unlawful = UnlawfulFile

-- the words are refused as a whole, at no line
abbrev pub refusal : Verdict → Refusal
refusal v = record { reason = reason_of v; line = 0 }

abbrev pub opening_in : Names → List ℕ → Opening
opening_in names ws = record { names = names; board = board_in ws; game = game_in ws }

abbrev pub judged : Names → List ℕ → Verdict → Result Opening Refusal
judged names ws v = cond (is_accepted v) (Ok (opening_in names ws)) (Err (refusal v))

abbrev pub opened : List ℕ → List ℕ → Result Opening Refusal
opened board game =
    and_then (board_file board) (λ b.
    and_then (game_file b.names game) (λ g.
    and_then (begin_words b g) (λ ws.
    judged b.names ws (begin_verdict ws))))

-- ---- which texts are due

-- after winter comes spring
abbrev pub next_number : ℕ → ℕ
next_number k = cond (nat_lt k 4) (k + 1) 0

-- how many phases lie before phase n, from phase k on
abbrev pub distance : ℕ → ℕ → ℕ
distance k n = cond (nat_lt n k) (n + 5 - k) (n - k)

-- texts without a phase line are of the phase that the game began with
abbrev pub block_phase : ℕ → Texts → ℕ
block_phase first b = unwrap_or b.phase first

-- whether the next block is of phase k
abbrev pub is_due : ℕ → ℕ → List Texts → Bool
is_due first k [] = false
is_due first k (b ∷ bs) = k == block_phase first b

abbrev pub next_texts : List Texts → List ℕ
next_texts [] = []
next_texts (b ∷ bs) = b.words

abbrev pub blocks_behind : List Texts → List Texts
blocks_behind [] = []
blocks_behind (b ∷ bs) = bs

-- the texts of so many phases from phase k on: each takes the next block if it is of that phase; else it has no texts,
-- and that block waits, and all behind it
unfoldable pub turns_due : ℕ → ℕ → ℕ → List Texts → List (List ℕ)
turns_due first zero k bs = []
turns_due first (suc n) k bs =
    cond (is_due first k bs) (next_texts bs ∷ turns_due first n (next_number k) (blocks_behind bs)) ([] ∷ turns_due first n (next_number k) bs)

-- how many phases there are from phase k on until the last block has been taken
unfoldable pub phases_until : ℕ → ℕ → List Texts → ℕ
phases_until first k [] = 0
phases_until first k (b ∷ bs) = distance k (block_phase first b) + 1 + phases_until first (next_number (block_phase first b)) bs

-- one phase; up to and with the first winter; until the last block has been taken
abbrev pub phase_count : Program → ℕ → List Texts → ℕ
phase_count Referee first bs = 1
phase_count Season first bs = 5 - first
phase_count Record first bs = phases_until first first bs

-- ---- playing

-- record prints games only
abbrev pub tells_phases : Program → Bool
tells_phases Referee = true
tells_phases Season = true
tells_phases Record = false

-- what is refused prints its number and line, and the game as it stood
abbrev pub refused_bytes : Names → Board → Game → ℕ → ℕ → List ℕ
refused_bytes names m g number line = refusal_bytes number line ++ game_bytes names (length m.regions) g

-- the lines of the phase and the next game, or the next game only
abbrev pub played_bytes : Bool → Names → Board → Game → List Written → List ℕ
played_bytes tells names m g ws = cond tells (phase_bytes names m g ws) (game_bytes names (length m.regions) (turn m g ws))

abbrev pub turn_bytes : Bool → Names → Board → Game → List ℕ → List ℕ
turn_bytes tells names m g ws = cond (is_accepted (turn_verdict m ws)) (played_bytes tells names m g (texts_in ws)) (refused_bytes names m g (number (turn_verdict m ws)) 0)

-- phase after phase, up to the first that is refused
unfoldable pub run_bytes : Bool → Names → Board → Game → List (List ℕ) → List ℕ
run_bytes tells names m g [] = []
run_bytes tells names m g (ws ∷ turns) = turn_bytes tells names m g ws ++ cond (is_accepted (turn_verdict m ws)) (run_bytes tells names m (turn_game m g ws) turns) []

-- ---- the whole

abbrev pub turns_of : Program → Phase → List Texts → List (List ℕ)
turns_of program phase bs = turns_due (phase_number phase) (phase_count program (phase_number phase) bs) (phase_number phase) bs

abbrev pub orders_bytes : Program → Opening → Result (List Texts) Refusal → List ℕ
orders_bytes program o (Ok bs) = run_bytes (tells_phases program) o.names o.board o.game (turns_of program o.game.phase bs)
orders_bytes program o (Err e) = refused_bytes o.names o.board o.game (reason_number e.reason) e.line

-- where no game stands yet only the refusal is printed
abbrev pub opened_bytes : Program → Result Opening Refusal → List ℕ → List ℕ
opened_bytes program (Ok o) orders = orders_bytes program o (orders_file o.names orders)
opened_bytes program (Err e) orders = refusal_bytes (reason_number e.reason) e.line

abbrev pub program_bytes : Program → List ℕ → List ℕ → List ℕ → List ℕ
program_bytes program board game orders = opened_bytes program (opened board game) orders

abbrev pub referee_bytes : List ℕ → List ℕ → List ℕ → List ℕ
referee_bytes = program_bytes Referee

abbrev pub season_bytes : List ℕ → List ℕ → List ℕ → List ℕ
season_bytes = program_bytes Season

abbrev pub record_bytes : List ℕ → List ℕ → List ℕ → List ℕ
record_bytes = program_bytes Record
