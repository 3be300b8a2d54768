use Rattle.std.proofs.Common.{◌≡◌, ◌++◌, drop, string_bytes}
use Rattle.values.specs.Fold.{each}
use Rattle.lines.specs.Print.{word_bytes}
use Rattle.lines.proofs.print.push_words.Given as goal

abbrev pub invariant-loop-w : goal.invariant-loop-w
invariant-loop-w l = string_bytes l.out ++ each word_bytes (drop l.w-index l.words) ≡ string_bytes l.initial.out ++ each word_bytes l.words
