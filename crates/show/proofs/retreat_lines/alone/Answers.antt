use Rattle.std.proofs.Common.{rules}
use Rattle.retreats.specs.Retreating.{goals_in}
use Rattle.tables.proofs.Regions.{region_at}
use Rattle.show.proofs.retreat_lines.alone.Goals as goal

pub returns : goal.returns
returns c = λ goals counted. let at = region_at 0 goals_in c.args.counts.now goals in search (rules, at)
