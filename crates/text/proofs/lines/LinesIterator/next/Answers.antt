use Rattle.std.proofs.Common.{◌<◌, ◌-◌, length, take, drop, refl, inl, inr, arith, length-drop, rules}
use Rattle.std.proofs.lemmas.List.{take_rest}
use Rattle.text.proofs.Steps.{next_line, no_line}
use Rattle.text.proofs.lines.LinesIterator.next.Goals as goal
use Rattle.text.proofs.lines.LinesIterator.next.Goals.{then-n-rest, else-n-rest}

pub returns-then-is_empty-clause-steps : goal.returns-then-is_empty-clause-steps
returns-then-is_empty-clause-steps c = search (rules, no_line)

pub returns : goal.returns
returns c =
    let bs = c.args.self.now.rest.now in
    let some : 0 < length bs = search rules in
    let part = take_rest bs c.if-n-rest.next in
    let long = length-drop c.if-n-rest.next bs in
    let shorter : 0 < c.if-n-rest.next → length (take (length bs - c.if-n-rest.next) (drop c.if-n-rest.next bs)) < length bs = λ on. rw part (omega (arith, on, long)) in
    elim c.if-n-rest.branch [
      | then-n-rest w ↦ record { steps = (next_line bs _ _ some c.part_length-n.ensures.value (inl (w.if-n-rest.true, w.next-is)), refl, refl); goes = record { on = λ finite. (tt, tt, shorter (omega (arith, w.next-is))); keeps = tt; rests = λ finite. tt } }
      | else-n-rest w ↦ record { steps = (next_line bs _ _ some c.part_length-n.ensures.value (inr (w.if-n-rest.false, w.next-is)), refl, refl); goes = record { on = λ finite. (tt, tt, shorter (omega (arith, w.next-is))); keeps = tt; rests = λ finite. tt } }
    ]
