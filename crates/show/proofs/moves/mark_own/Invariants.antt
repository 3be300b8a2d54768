use Rattle.std.proofs.Common.{◌≡◌, vec_items, vec_len}
use Rattle.show.proofs.Marked.{SoFar}
use Rattle.show.proofs.moves.mark_own.Given as goal

abbrev pub invariant-loop-w : goal.invariant-loop-w
invariant-loop-w l = (vec_len l.marked ≡ 256) × SoFar (vec_items l.marked) l.table l.texts l.w-index
