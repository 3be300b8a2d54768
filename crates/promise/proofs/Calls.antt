-- Calls lead from lawful games to lawful games, and what is refused changes nothing. From what the verdicts say.
use mathlib.Core.Path.{◌≡◌, refl}
use mathlib.Core.Bool.{Bool, true, false, cond, ◌&&◌, not}
use mathlib.Core.List.{List, [], ◌∷◌}
use Prim.Native.Nat.{ℕ}
use native.Mathlib.Omega.{arith}
use Rattle.values.specs.Fold.{all, distinct}
use Rattle.board.specs.Board.{good_board}
use Rattle.deciding.specs.Outcome.{reports}
use Rattle.game.specs.Game.{is_moves}
use Rattle.game.specs.Lawful.{good_owners, lawful}
use Rattle.game.specs.Texts.{ordered}
use Rattle.game.specs.Turn as year
use Rattle.year_laws.proofs.LawfulFacts.{lawful_tested}
use Rattle.calls.specs.declared.verdict.Verdict.{Verdict}
use Rattle.calls.specs.declared.verdict.Verdict.TheVariants.{Accepted, Misfit, BadText, Unlawful}
use Rattle.calls.specs.Verdict.{is_accepted}
use Rattle.calls.specs.Begin.{words_fit, words_mean, begin_verdict, board_in, game_in}
use Rattle.calls.specs.Turn.{turn_verdict, texts_in}
use Rattle.promise.specs.Calls.{Call, begin, turn, State, start, verdict, answer, answered}
use Rattle.promise.specs.Promise.{GamePromise, Played, StatePromise}
use Rattle.promise.proofs.Turns.{game_promise}

-- ---- verdicts
accepted_parts : (fit mean good keeps : Bool) → cond (not fit) Misfit (cond (not (mean && (good && keeps))) Unlawful Accepted) ≡ Accepted → (good ≡ true) × (keeps ≡ true)
accepted_parts fit mean good keeps e = grind arith

is_accepted_lem : (v : Verdict) → is_accepted v ≡ true → v ≡ Accepted
is_accepted_lem v e = grind arith

not_accepted : (v : Verdict) → (v ≡ Accepted → ⊥) → is_accepted v ≡ false
not_accepted Accepted f = elim (f refl) [ ]
not_accepted Misfit f = refl
not_accepted BadText f = refl
not_accepted Unlawful f = refl

pub begin_promise : (ws : List ℕ) → begin_verdict ws ≡ Accepted → GamePromise (board_in ws) (game_in ws)
begin_promise ws e =
    let p = accepted_parts (words_fit ws) (words_mean ws) (good_board (board_in ws)) (lawful (board_in ws) (game_in ws)) e in
    game_promise (board_in ws) (game_in ws) p.0 ((lawful_tested (board_in ws) (game_in ws)).0 p.1)

-- ---- one call
pub refused_changes_nothing : (s : State) (c : Call) → (verdict s c ≡ Accepted → ⊥) → answer s c ≡ s
refused_changes_nothing s (begin ws) f =
    let e = not_accepted (begin_verdict ws) f in
    λ i. record { board = cond (e i) (board_in ws) s.board; game = cond (e i) (game_in ws) s.game; last = s.last }
refused_changes_nothing s (turn ws) f =
    let e = not_accepted (turn_verdict s.board ws) f in
    λ i. record {
      board = s.board;
      game = cond (e i) (year.turn s.board s.game (texts_in ws)) s.game;
      last = cond (e i && is_moves s.game.phase) (reports s.board (ordered s.game.units (texts_in ws))) s.last;
    }

begun : (s : State) (ws : List ℕ) → begin_verdict ws ≡ Accepted → answer s (begin ws) ≡ record { board = board_in ws; game = game_in ws; last = s.last }
begun s ws e = λ i. record { board = cond (is_accepted (e i)) (board_in ws) s.board; game = cond (is_accepted (e i)) (game_in ws) s.game; last = s.last }

played : (s : State) (ws : List ℕ) → GamePromise s.board s.game → turn_verdict s.board ws ≡ Accepted → Played s ws
played s ws p e =
    record {
      board = refl;
      game = λ i. cond (is_accepted (e i)) (year.turn s.board s.game (texts_in ws)) s.game;
      told = λ k i. cond (is_accepted (e i) && k i) (reports s.board (ordered s.game.units (texts_in ws))) s.last;
      promised = p.turns (texts_in ws);
    }

pub state_promise : (s : State) → GamePromise s.board s.game → StatePromise s
state_promise s p = record { stands = p; begun = begun s; played = λ ws. played s ws p }

-- ---- calls one after another
call_keeps : (s : State) (c : Call) → GamePromise s.board s.game → GamePromise (answer s c).board (answer s c).game
call_keeps s (begin ws) p = go (is_accepted (begin_verdict ws)) refl
  where
    go : (b : Bool) → is_accepted (begin_verdict ws) ≡ b → GamePromise (cond b (board_in ws) s.board) (cond b (game_in ws) s.game)
    go true e = begin_promise ws (is_accepted_lem (begin_verdict ws) e)
    go false e = p
call_keeps s (turn ws) p = go (is_accepted (turn_verdict s.board ws))
  where
    go : (b : Bool) → GamePromise s.board (cond b (year.turn s.board s.game (texts_in ws)) s.game)
    go true = game_promise s.board (year.turn s.board s.game (texts_in ws)) p.good (p.turns (texts_in ws)).kept
    go false = p

calls_keep : (cs : List Call) (s : State) → GamePromise s.board s.game → GamePromise (answered s cs).board (answered s cs).game
unfolding answered
calls_keep [] s p = p
calls_keep (c ∷ cs) s p = calls_keep cs (answer s c) (call_keeps s c p)

start_promise : GamePromise start.board start.game
unfolding all distinct good_owners
start_promise = game_promise start.board start.game refl (record { apart = refl; stand = refl; out_apart = refl; out_stand = refl; out_from = refl; owned = refl; on_the_board = refl; calm = refl })

pub calls_promise : (cs : List Call) → StatePromise (answered start cs)
calls_promise cs = state_promise (answered start cs) (calls_keep cs start start_promise)
