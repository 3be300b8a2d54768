-- Owners stay but after the autumn.
use Rattle.year_laws.proofs.Owners.{owners_stay}
use Rattle.year_laws.proofs.owners_stay_stands.Goals as goal

pub returns : goal.returns
returns c = owners_stay
