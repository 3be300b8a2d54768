-- Rounds end.
use Rattle.deciding_laws.proofs.RoundsEnd.{rounds-end}
use Rattle.deciding_laws.proofs.rounds_end_stands.Goals as goal

pub returns : goal.returns
returns c = rounds-end
