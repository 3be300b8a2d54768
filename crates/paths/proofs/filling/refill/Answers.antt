use Rattle.std.proofs.Common.{sym, subst, ◌∙◌}
use Rattle.std.proofs.iter.runs.Made.{run_of_exit}
use Rattle.paths.proofs.filling.refill.Goals as goal

pub returns-clause-items : goal.returns-clause-items
returns-clause-items g c =
    let step = subst (λ r. g.I.Iterator.next_gives c.loop-x.x-iterator r c.next.new.self) c.in-None.is c.next.ensures.steps in
    let whole = run_of_exit _ _ _ _ c.loop-x.yielded_by _ step in
    (whole.0, whole.1 ∙ c.into_iter-x-iterator.ensures.into_iter_gives, whole.2, c.loop-x.invariant.2 ∙ sym whole.3.0)
