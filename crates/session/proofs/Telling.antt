-- What is told of a phase before the position changes and after it is all that is told of it.
use Rattle.std.proofs.Common.{◌≡◌, ℕ, Bool, true, false, cond, List, ◌++◌, length, IfOk, Some, None, Option, Result, sym, refl, ap, ◌∙◌, append_assoc, append-nil}
use Rattle.std.proofs.lemmas.Result.{IfOk-weaker}
use Rattle.deciding.specs.declared.report.Report.{Report}
use Rattle.board.specs.Board.{Board}
use Rattle.deciding.specs.Outcome.{reports}
use Rattle.game.specs.declared.phase.Phase.{Phase}
use Rattle.game.specs.declared.phase.Phase.TheVariants.{SpringMoves, SpringRetreats, AutumnMoves, AutumnRetreats, Winter}
use Rattle.game.specs.declared.text.Written.{Written}
use Rattle.game.specs.Game.{Game, is_moves}
use Rattle.game.specs.Texts.{ordered}
use Rattle.adjudicator.specs.Told.{told_in}
use Rattle.show.specs.Words.{Names}
use Rattle.game.specs.Turn.{turn}
use Rattle.show.specs.Game.{game_bytes}
use Rattle.show.specs.Reports.{phase_lines}
use Rattle.session.specs.Session.{played_bytes}
use Rattle.session.specs.Tables.{lines_before, lines_after}

module _ (names : Names) (m : Board) (g : Game) (ws : List Written) where
  by_phase : (phase : Phase) → lines_before phase names m g ws ++ lines_after names (length m.regions) ws (cond (is_moves phase) (Some (reports m (ordered g.units ws))) None) ≡ phase_lines phase names m g ws
  by_phase SpringMoves = refl
  by_phase SpringRetreats = append-nil _
  by_phase AutumnMoves = refl
  by_phase AutumnRetreats = append-nil _
  by_phase Winter = append-nil _

  pub all_told : lines_before g.phase names m g ws ++ lines_after names (length m.regions) ws (told_in m g ws) ≡ phase_lines g.phase names m g ws
  all_told = by_phase g.phase

  pub told_lines : (old was now : List ℕ) (n : ℕ) (ts : List Written) (xs : Option (List Report)) → n ≡ length m.regions → ts ≡ ws → xs ≡ told_in m g ws → was ≡ old ++ lines_before g.phase names m g ws → now ≡ was ++ lines_after names n ts xs → now ≡ old ++ phase_lines g.phase names m g ws
  told_lines old was now n ts xs wide same told before here =
      here ∙ (λ i. before i ++ lines_after names (wide i) (same i) (told i)) ∙
      append_assoc old (lines_before g.phase names m g ws) (lines_after names (length m.regions) ws (told_in m g ws)) ∙ ap (λ l. old ++ l) all_told

  -- then the next game
  module _ {X Y : Type 0} (r : Result X Y) (old was now : List ℕ) (board : Board) (next : Game) (same : board ≡ m) (onward : next ≡ turn m g ws) (here : IfOk r (λ _. now ≡ was ++ game_bytes names (length board.regions) next)) where
    the_next : now ≡ was ++ game_bytes names (length board.regions) next → now ≡ was ++ game_bytes names (length m.regions) (turn m g ws)
    the_next e = e ∙ (λ i. was ++ game_bytes names (length (same i).regions) (onward i))

    pub with_lines : (tells : Bool) → tells ≡ true → was ≡ old ++ phase_lines g.phase names m g ws → IfOk r (λ _. now ≡ old ++ played_bytes tells names m g ws)
    with_lines tells told before =
        IfOk-weaker r _ _
        (λ x e.
        the_next e ∙ ap (λ l. l ++ game_bytes names (length m.regions) (turn m g ws)) before ∙
        append_assoc old (phase_lines g.phase names m g ws) (game_bytes names (length m.regions) (turn m g ws)) ∙ ap (λ t. old ++ played_bytes t names m g ws) (sym told))
        here

    pub game_only : (tells : Bool) → tells ≡ false → was ≡ old → IfOk r (λ _. now ≡ old ++ played_bytes tells names m g ws)
    game_only tells silent before =
        IfOk-weaker r _ _ (λ x e. the_next e ∙ ap (λ l. l ++ game_bytes names (length m.regions) (turn m g ws)) before ∙ ap (λ t. old ++ played_bytes t names m g ws) (sym silent)) here

    pub stands-next : IfOk r (λ _. next ≡ turn m g ws)
    stands-next = IfOk-weaker r _ _ (λ x e. onward) here
