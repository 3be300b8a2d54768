use Rattle.std.proofs.Common.{◌≡◌, ◌-◌, length, drop, vec_items, vec_len}
use Rattle.tables.specs.Stands.{Tabled}
use Rattle.tables.proofs.table.by_region.Given as goal

abbrev pub invariant-loop-x : goal.invariant-loop-x
invariant-loop-x g l = (vec_len l.table ≡ 256) × Tabled g.X.Standing.piece (vec_items l.table) (drop (length l.xs - length l.yielded) l.xs)
