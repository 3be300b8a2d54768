-- Whoever is dislodged is so by one foreign move.
use Rattle.deciding_laws.proofs.DislodgedByOne.{dislodged_by_one}
use Rattle.deciding_laws.proofs.dislodged_by_one_stands.Goals as goal

pub returns : goal.returns
returns c = dislodged_by_one
