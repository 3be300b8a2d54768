-- Phase after phase: one more that was accepted, one that was refused, and the end.
use Rattle.std.proofs.Common.{◌≡◌, ℕ, ◌+◌, ◌<◌, ◌≤◌, Bool, true, false, cond, List, [], ◌++◌, length, get_or, drop, sym, ap, ◌∙◌, append_assoc, append-nil, Bor}
use Rattle.std.proofs.lemmas.List.{drop_more, drop_all}
use Rattle.board.specs.Board.{Board}
use Rattle.game.specs.Game.{Game}
use Rattle.calls.specs.Verdict.{is_accepted}
use Rattle.calls.specs.Turn.{turn_verdict, turn_game}
use Rattle.show.specs.Words.{Names}
use Rattle.session.specs.Session.{turn_bytes, run_bytes}
use Rattle.session.specs.Tables.{turns_in}

module _ (tells : Bool) (names : Names) (m : Board) (g : Game) (turns : List (Bor (List ℕ))) (i : ℕ) (all was : List ℕ) (so_far : was ++ run_bytes tells names m g (turns_in (drop i turns)) ≡ all) where
  pub run_end : length turns ≤ i → was ≡ all
  unfolding run_bytes
  run_end past = sym (append-nil was) ∙ sym (ap (λ l. was ++ run_bytes tells names m g (turns_in l)) (drop_all i turns past)) ∙ so_far

  module _ (d : Bor (List ℕ)) (within : i < length turns) (now : List ℕ) (here : now ≡ was ++ turn_bytes tells names m g (get_or turns i d).now) where
    abbrev words : List ℕ
    words = (get_or turns i d).now

    abbrev rest : List ℕ
    rest = cond (is_accepted (turn_verdict m words)) (run_bytes tells names m (turn_game m g words) (turns_in (drop (i + 1) turns))) []

    one_turn : run_bytes tells names m g (turns_in (drop i turns)) ≡ turn_bytes tells names m g words ++ rest
    unfolding run_bytes
    one_turn = ap (λ l. run_bytes tells names m g (turns_in l)) (drop_more turns i d within)

    after_turn : now ++ rest ≡ all
    after_turn = ap (λ l. l ++ rest) here ∙ append_assoc was (turn_bytes tells names m g words) rest ∙ ap (λ l. was ++ l) (sym one_turn) ∙ so_far

    pub run_on : (board : Board) (after : Game) → is_accepted (turn_verdict m (get_or turns i d).now) ≡ true → board ≡ m → after ≡ turn_game m g (get_or turns i d).now → now ++ run_bytes tells names board after (turns_in (drop (i + 1) turns)) ≡ all
    run_on board after good same onward =
        (λ k. now ++ run_bytes tells names (same k) (onward k) (turns_in (drop (i + 1) turns))) ∙
        sym (ap (λ t. now ++ cond t (run_bytes tells names m (turn_game m g words) (turns_in (drop (i + 1) turns))) []) good) ∙ after_turn

    pub run_stops : is_accepted (turn_verdict m (get_or turns i d).now) ≡ false → now ≡ all
    run_stops bad = sym (append-nil now) ∙ sym (ap (λ t. now ++ cond t (run_bytes tells names m (turn_game m g words) (turns_in (drop (i + 1) turns))) []) bad) ∙ after_turn
