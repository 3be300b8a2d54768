use Rattle.std.proofs.Common.{◌≡◌, ◌++◌, drop, vec_items}
use Rattle.text.specs.OrdersFile.{texts}
use Rattle.text.proofs.orders_file.texts.Given as goal

abbrev pub invariant-loop-line : goal.invariant-loop-line
invariant-loop-line l = vec_items l.words ++ texts (drop l.line-index l.lines) ≡ texts l.lines
