use Rattle.std.proofs.Common.{◌≡◌, ◌++◌, get_or, None, vec_items}
use Rattle.answers.specs.Words.{words_if, by_region}
use Rattle.answers.proofs.ordered.push_in_order.Given as goal

abbrev pub invariant-loop-o : goal.invariant-loop-o
invariant-loop-o g l = vec_items l.out ≡ vec_items l.initial.out ++ by_region l.o-index (λ k. words_if g.X.Worded.words_of (get_or l.o-items k None))
