use Rattle.geography.proofs.Bitwise.{bit_and_lem}
use Rattle.geography.proofs.region_set.bit_of.Goals as goal

pub returns : goal.returns
returns c = bit_and_lem c.args.w c.args.k
