-- What rounds decide after a paradox is forced.
use Rattle.deciding_laws.proofs.Forced.{forced_after-paradox}
use Rattle.deciding_laws.proofs.forced_after_paradox_stands.Goals as goal

pub returns : goal.returns
returns c = forced_after-paradox
