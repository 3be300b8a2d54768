-- Who stands after moves.
use Rattle.year_laws.proofs.Moves.{move_law}
use Rattle.year_laws.proofs.moves_stand.Goals as goal

pub returns : goal.returns
returns c = move_law
