use Rattle.std.proofs.Common.{◌≡◌, length, vec_items, vec_len, vec_capacity}
use Rattle.paths.proofs.filling.refill.Given as goal

abbrev pub invariant-loop-x : goal.invariant-loop-x
invariant-loop-x g l =
    (goal.iterator-loop-x g).can_next l.x-iterator × (goal.iterator-loop-x g).is_finite l.x-iterator × (vec_items l.out ≡ l.yielded) × (vec_len l.out ≡ length l.yielded) × (vec_capacity l.out ≡ vec_capacity l.initial.out)
