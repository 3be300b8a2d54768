-- Nobody gains a unit but in winter.
use Rattle.year_laws.proofs.Counted.{nobody_gains_lem}
use Rattle.year_laws.proofs.nobody_gains_stands.Goals as goal

pub returns : goal.returns
returns c = nobody_gains_lem
