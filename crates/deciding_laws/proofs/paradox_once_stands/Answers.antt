-- There is no second paradox.
use Rattle.deciding_laws.proofs.RingsOnly.{paradox_once}
use Rattle.deciding_laws.proofs.paradox_once_stands.Goals as goal

pub returns : goal.returns
returns c = paradox_once
