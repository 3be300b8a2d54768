use Rattle.std.proofs.Common.{vec_items, arith}
use Rattle.show.proofs.Marked.{marked_none, mark_skip, mark_more, marked_all}
use Rattle.show.proofs.moves.mark_own.Goals as goal
use Rattle.show.proofs.moves.mark_own.Goals.{then-is_own, else-is_own}

pub loop-w-init : goal.loop-w-init
loop-w-init c = (c.in_ok-marked.ensures.len, marked_none _ _ _ (c.in_ok-marked.ensures.items_if_clones_equal (λ y h. h)))

pub loop-w-preserved : goal.loop-w-preserved
loop-w-preserved c = elim c.if-is_own.branch [
  | then-is_own w ↦ let m = mark_more (vec_items c.loop-w.marked) c.args.table.now c.args.texts.now c.loop-w.w-index _ c.loop-w-test.true c.loop-w.invariant.1 (omega (arith, c.loop-w.marked.ok.0, c.loop-w.invariant.0)) w.if-is_own.ensures in rw w.marked-is (c.loop-w.invariant.0, m)
  | else-is_own w ↦ let m = mark_skip (vec_items c.loop-w.marked) c.args.table.now c.args.texts.now c.loop-w.w-index _ c.loop-w-test.true c.loop-w.invariant.1 w.if-is_own.ensures in rw w.marked-is (c.loop-w.invariant.0, m)
]

pub returns : goal.returns
returns c = (c.loop-w.invariant.0, marked_all _ _ _ c.loop-w.w-index c.loop-w-test.false c.loop-w.invariant.1)
