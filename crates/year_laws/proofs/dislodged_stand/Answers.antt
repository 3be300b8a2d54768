-- Who is dislodged after moves.
use Rattle.year_laws.proofs.Moves.{dislodge_law}
use Rattle.year_laws.proofs.dislodged_stand.Goals as goal

pub returns : goal.returns
returns c = dislodge_law
