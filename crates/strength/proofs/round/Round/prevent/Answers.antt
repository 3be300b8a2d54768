use Rattle.std.proofs.Common.{rules}
use Rattle.strength.specs.Strength.{prevent}
use Rattle.strength.proofs.round.Round.prevent.Goals as goal

pub returns : goal.returns
unfolding prevent
returns c = search rules
