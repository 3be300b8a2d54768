-- All that is promised of deciding.
use Rattle.deciding_laws.proofs.Promises.{deciding_is_right}
use Rattle.deciding_laws.proofs.deciding_is_right.Goals as goal

pub returns : goal.returns
returns c = deciding_is_right
