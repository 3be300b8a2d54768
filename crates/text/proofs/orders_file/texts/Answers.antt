use Rattle.std.proofs.Common.{rules}
use Rattle.text.specs.OrdersFile.{texts}
use Rattle.text.proofs.Blocks.{turns}
use Rattle.text.proofs.orders_file.texts.Goals as goal

pub returns-in-Phase : goal.returns-in-Phase
unfolding texts
returns-in-Phase c = search (rules, turns)

pub loop-line-preserved : goal.loop-line-preserved
unfolding texts
loop-line-preserved c = search (rules, turns)

pub returns : goal.returns
unfolding texts
returns c = search (rules, turns)
