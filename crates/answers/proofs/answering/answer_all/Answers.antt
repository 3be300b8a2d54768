use Rattle.std.proofs.Common.{string_bytes}
use Rattle.lines.specs.Split.{lines_of}
use Rattle.answers.specs.Answers.{stood_by}
use Rattle.answers.proofs.Spoken.{all_more, all_none}
use Rattle.answers.proofs.answering.answer_all.Goals as goal

pub loop-line-preserved : goal.loop-line-preserved
loop-line-preserved c =
    let s = stood_by c.loop-line.referee in
    let t = stood_by c.answer.new.referee in
    let done = c.in_ok-answer.ensures in
    all_more s t c.in-Some.line.now (lines_of c.loop-line.line-iterator.rest.now) (lines_of c.next.new.self.rest.now) (string_bytes c.loop-line.out) (string_bytes c.answer.new.out) _ c.in-Some.ensures.steps c.loop-line.invariant done.0 done.1

pub returns : goal.returns
returns c =
    all_none (stood_by c.loop-line.referee) (lines_of c.loop-line.line-iterator.rest.now) (string_bytes c.loop-line.out) _ c.in-None.ensures.steps.0 c.loop-line.invariant
