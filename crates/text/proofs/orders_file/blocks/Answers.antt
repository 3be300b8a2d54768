use Rattle.std.proofs.Common.{rules}
use Rattle.text.specs.OrdersFile.{phases}
use Rattle.text.proofs.Blocks.{turns}
use Rattle.text.proofs.orders_file.blocks.Goals as goal

pub loop-i-preserved : goal.loop-i-preserved
unfolding phases
loop-i-preserved c = search (rules, turns)

pub returns : goal.returns
unfolding phases
returns c = search (rules, turns)
