-- What is barred after moves.
use Rattle.year_laws.proofs.Barred.{barred_law}
use Rattle.year_laws.proofs.barred_stands.Goals as goal

pub returns : goal.returns
returns c = barred_law
