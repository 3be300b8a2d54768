use Rattle.geography.proofs.Bitwise.{bit_set}
use Rattle.geography.proofs.region_set.with_bit.Goals as goal

pub returns : goal.returns
returns c = λ j. bit_set c.args.w c.args.k j c.requires
