-- What rounds decide is forced.
use Rattle.deciding_laws.proofs.Forced.{forced}
use Rattle.deciding_laws.proofs.forced_stands.Goals as goal

pub returns : goal.returns
returns c = forced
