use Rattle.std.proofs.Common.{◌≡◌, ◌++◌, drop}
use Rattle.text.specs.OrdersFile.{phases, blocks, blocks_in}
use Rattle.text.proofs.orders_file.blocks.Given as goal

abbrev pub invariant-loop-i : goal.invariant-loop-i
invariant-loop-i l = blocks_in l.read ++ phases (drop l.i l.lines) ≡ blocks l.lines
