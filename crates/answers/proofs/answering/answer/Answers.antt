use Rattle.std.proofs.Common.{◌++◌, vec_items, string_bytes, sym, ap, ◌∙◌}
use Rattle.std.proofs.lemmas.Result.{IfOk-weaker}
use Rattle.lines.specs.Calls.{called_by}
use Rattle.answers.specs.Answers.{stood_by, after_turn, turn_bytes, key_bytes, key_after}
use Rattle.answers.proofs.Spoken.{call_spoken}
use Rattle.answers.proofs.answering.answer.Goals as goal

pub returns : goal.returns
returns c =
    let s = stood_by c.args.referee.now in
    let words = vec_items c.in-Some.call.words in
    let o = string_bytes c.args.out.now in
    IfOk-weaker c.answer_turn.result _ _
    (λ x done. call_spoken s (stood_by c.answer_turn.new.referee) c.args.line.now c.in-Some.call.key words o (string_bytes c.answer_turn.new.out) (sym c.in_ok-call.ensures ∙ ap called_by c.in-Some.is)
    (done.0 ∙ ap (λ l. o ++ turn_bytes s l) c.as_slice-in-Turn.ensures.value ∙ ap (λ k. o ++ key_bytes s k words) (sym c.in-Turn.is))
    (done.1 ∙ ap (after_turn s) c.as_slice-in-Turn.ensures.value ∙ ap (λ k. key_after s k words) (sym c.in-Turn.is)))
    c.answer_turn.ensures
