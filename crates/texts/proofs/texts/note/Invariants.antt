use Rattle.std.proofs.Common.{◌≡◌, ◌-◌, length, drop, vec_items, vec_len}
use Rattle.texts.specs.Slots.{Kept}
use Rattle.texts.proofs.texts.note.Given as goal

abbrev pub invariant-loop-w : goal.invariant-loop-w
invariant-loop-w l = (vec_len l.slots ≡ 1792) × Kept (drop (length l.list - length l.yielded) l.list) (vec_items l.slots)
