use Rattle.std.proofs.Common.{arith, rules}
use Rattle.retreats.specs.Retreating.{goals_in}
use Rattle.tables.proofs.Regions.{region_at}
use Rattle.retreats.proofs.retreats.landing.Goals as goal

pub returns : goal.returns
returns c = λ goals counted. let k = region_at 0 goals_in c.args.counts.now goals c.in_ok-region.region counted (omega arith) in search rules
