use Rattle.std.proofs.Common.{rules}
use Rattle.values.specs.Fold.{any}
use Rattle.assignment.proofs.Steps.{steps}
use Rattle.paths.proofs.crossing.Crossing.lands.Goals as goal

pub returns-then-joined : goal.returns-then-joined
unfolding any
returns-then-joined g c = λ rs same. let f = c.loop-i.invariant rs same in let t = c.reaches.ensures rs same in search (rules, steps)

pub loop-i-preserved : goal.loop-i-preserved
unfolding any
loop-i-preserved g c = λ rs same. let f = c.loop-i.invariant rs same in let t = c.reaches.ensures rs same in search (rules, steps)

pub returns : goal.returns
unfolding any
returns g c = λ rs same. let f = c.loop-i.invariant rs same in search (rules, steps)
