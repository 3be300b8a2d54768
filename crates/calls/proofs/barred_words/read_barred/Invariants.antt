use Rattle.std.proofs.Common.{◌-◌, length, drop}
use Rattle.calls.proofs.Barred.{Held}
use Rattle.calls.proofs.barred_words.read_barred.Given as goal

abbrev pub invariant-loop-word : goal.invariant-loop-word
invariant-loop-word l =
    goal.iterator-loop-word.can_next l.word-iterator
    × goal.iterator-loop-word.is_finite l.word-iterator
    × Held l.regions (drop (length l.words - length l.yielded) l.words) l.barred
