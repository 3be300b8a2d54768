use Rattle.std.proofs.Common.{rules}
use Rattle.assignment.proofs.Steps.{steps}
use Rattle.deciding.proofs.rounds.round_into.Goals as goal

pub loop-i-preserved : goal.loop-i-preserved
loop-i-preserved c = search (rules, steps)

pub returns : goal.returns
returns c = search (rules, steps)
