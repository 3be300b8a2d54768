use Rattle.std.proofs.Common.{◌≡◌, replicate, vec_items, vec_len}
use Rattle.tables.proofs.table.filled.Given as goal

abbrev pub invariant-loop-i : goal.invariant-loop-i
invariant-loop-i g l = (vec_items l.table ≡ replicate l.i l.x) × (vec_len l.table ≡ l.i)
