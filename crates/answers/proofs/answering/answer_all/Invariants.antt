use Rattle.std.proofs.Common.{◌≡◌, ◌++◌, string_bytes}
use Rattle.lines.specs.Split.{lines_of}
use Rattle.answers.specs.Answers.{stood_by, all_bytes}
use Rattle.answers.proofs.answering.answer_all.Given as goal

-- what is left, answered from what stands now, comes behind what was answered
abbrev pub invariant-loop-line : goal.invariant-loop-line
invariant-loop-line l =
    string_bytes l.out ++ all_bytes (stood_by l.referee) (lines_of l.line-iterator.rest.now) ≡
    all_bytes (stood_by l.initial.referee) (lines_of l.text)
