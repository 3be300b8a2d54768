use Rattle.std.proofs.Common.{◌≡◌, ◌-◌, length, drop, vec_items, vec_len}
use Rattle.aftermath.specs.Arrivals.{Arrived}
use Rattle.aftermath.proofs.after_moves.arrivals.Given as goal

abbrev pub invariant-loop-x : goal.invariant-loop-x
invariant-loop-x l = (vec_len l.table ≡ 256) × Arrived (vec_items l.table) (drop (length l.xs - length l.yielded) l.xs)
