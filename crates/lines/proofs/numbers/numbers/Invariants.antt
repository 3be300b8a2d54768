use Rattle.std.proofs.Common.{◌≡◌, drop, None, vec_items}
use Rattle.lines.specs.Numbers.{numbers_from}
use Rattle.lines.proofs.Steps.{resume}
use Rattle.lines.proofs.numbers.numbers.Given as goal

abbrev pub invariant-loop-b : goal.invariant-loop-b
invariant-loop-b l = resume (vec_items l.out) (numbers_from l.number (drop l.b-index l.bytes)) ≡ numbers_from None l.bytes
