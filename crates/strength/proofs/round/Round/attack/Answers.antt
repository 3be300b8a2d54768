use Rattle.std.proofs.Common.{rules}
use Rattle.strength.specs.Strength.{attack}
use Rattle.strength.proofs.round.Round.attack.Goals as goal

pub returns : goal.returns
unfolding attack
returns c = search rules
