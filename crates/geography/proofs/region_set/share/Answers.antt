use Rattle.std.proofs.Common.{arith}
use Rattle.geography.proofs.Bitwise.{shared_none, shared_some}
use Rattle.geography.proofs.region_set.share.Goals as goal

pub returns : goal.returns
returns c = record { none = shared_none c.args.a c.args.b; some = shared_some c.args.a c.args.b (omega arith) }
