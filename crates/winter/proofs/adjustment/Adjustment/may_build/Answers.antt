use Rattle.std.proofs.Common.{rules}
use Rattle.winter.proofs.adjustment.Adjustment.may_build.Goals as goal

pub returns : goal.returns
returns c = let s = c.args.self.now in let k = s.taken_known c.args.r in search rules
