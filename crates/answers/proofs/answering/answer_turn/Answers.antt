use Rattle.std.proofs.Common.{◌≡◌, cond, [], ◌++◌, string_bytes, sym, refl, ap, ◌∙◌}
use Rattle.std.proofs.lemmas.Result.{IfOk-weaker}
use Rattle.answers.specs.Answers.{stood_by, after_turn, last_line}
use Rattle.answers.proofs.Spoken.{turn_spoken, told_yes, told_no}
use Rattle.answers.proofs.answering.answer_turn.Goals as goal
use Rattle.answers.proofs.answering.answer_turn.Goals.{then-moves+in_ok-push_last, else-moves}

pub returns : goal.returns
returns c =
    let s = stood_by c.args.referee.now in
    let t = stood_by c.turn.new.referee in
    let done = c.in_ok-verdict.ensures in
    let new : t ≡ after_turn s c.args.words.now = rw (done.board, done.game, done.last) refl in
    let p = string_bytes c.push_line.new.out in
    let told : string_bytes c.if-moves.out ≡ p ++ cond c.is_moves-moves.result (last_line t) [] =
    elim c.if-moves.branch [
      | then-moves+in_ok-push_last w ↦ told_yes c.is_moves-moves.result p (string_bytes c.if-moves.out) (last_line t) w.if-moves.true (ap string_bytes w.out-is ∙ w.in_ok-push_last.ensures)
      | else-moves w ↦ told_no c.is_moves-moves.result p (string_bytes c.if-moves.out) (last_line t) w.if-moves.false (ap string_bytes w.out-is)
    ] in
    IfOk-weaker c.push_game.result _ _
    (λ x shown. (
      turn_spoken s t c.args.words.now c.in_ok-verdict.verdict c.number.result c.is_moves-moves.result (string_bytes c.args.out.now) p (string_bytes c.if-moves.out) (string_bytes c.push_game.new.out)
          done.verdict (sym c.is_accepted.ensures ∙ c.if-not-is_accepted.false) c.number.ensures new c.is_moves-moves.ensures c.in_ok-push_line.ensures told shown,
      new,
    ))
    c.push_game.ensures
