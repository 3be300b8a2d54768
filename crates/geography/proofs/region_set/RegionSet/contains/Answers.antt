use Rattle.std.proofs.Common.{arith}
use Rattle.geography.proofs.Bitwise.{has_high}
use Rattle.geography.proofs.region_set.RegionSet.contains.Goals as goal

pub returns-else-r-lt128 : goal.returns-else-r-lt128
returns-else-r-lt128 c = has_high c.args.self c.args.r (omega arith) (omega arith)
