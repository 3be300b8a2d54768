use Rattle.std.proofs.Common.{None, get_or, refl, arith, rules}
use Rattle.aftermath.proofs.Arriving.{dislodged_is}
use Rattle.aftermath.proofs.after_moves.is_dislodged.Goals as goal

pub returns-then-failed : goal.returns-then-failed
returns-then-failed c = λ xs arrived.
    let k = dislodged_is c.args.table.now xs c.args.x (get_or c.args.table.now c.args.x.unit.region None) arrived (omega arith) c.requires refl in
    search rules

pub returns-else-is_move : goal.returns-else-is_move
returns-else-is_move c = λ xs arrived.
    let k = dislodged_is c.args.table.now xs c.args.x (get_or c.args.table.now c.args.x.unit.region None) arrived (omega arith) c.requires refl in
    search rules
