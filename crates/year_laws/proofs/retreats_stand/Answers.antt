-- Who stands after retreats.
use Rattle.year_laws.proofs.Retreats.{retreat_law}
use Rattle.year_laws.proofs.retreats_stand.Goals as goal

pub returns : goal.returns
returns c = retreat_law
