use Rattle.std.proofs.Common.{◌≡◌, ◌-◌, length, drop, vec_items, vec_len}
use Rattle.geography.specs.Links.{Tied}
use Rattle.geography.proofs.links.tie.Given as goal

abbrev pub invariant-loop-e : goal.invariant-loop-e
invariant-loop-e l = (vec_len l.neighbours ≡ 256) × Tied (drop (length l.edges - length l.yielded) l.edges) (vec_items l.neighbours)
