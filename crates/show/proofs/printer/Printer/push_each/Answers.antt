use Rattle.std.proofs.Common.{vec_items, arith}
use Rattle.show.proofs.Lines.{no_line, next_line}
use Rattle.show.proofs.printer.Printer.push_each.Goals as goal

pub loop-r-init : goal.loop-r-init
loop-r-init g c = λ give gives. no_line give (vec_items c.args.out.now)

pub loop-r-preserved : goal.loop-r-preserved
loop-r-preserved g c = λ give gives. next_line give (vec_items c.args.out.now) (vec_items c.loop-r.out) _ c.loop-r.r (c.loop-r.invariant give gives) (gives _ _ _ c.loop-r-test.true (omega arith) c.in_ok-push_one.ensures)
