-- What stays open goes round in rings.
use Rattle.deciding_laws.proofs.RingsOnly.{rings_only}
use Rattle.deciding_laws.proofs.rings_only_stands.Goals as goal

pub returns : goal.returns
returns c = rings_only
