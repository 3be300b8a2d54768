use Rattle.std.proofs.Common.{vec_items, sym, ap, ◌∙◌, subst}
use Rattle.assignment.specs.Places.{Inside}
use Rattle.assignment.specs.Lookup.{Indexed}
use Rattle.deciding.specs.Outcome.{close}
use Rattle.deciding.proofs.Again.{indexed_close, inside_close}
use Rattle.deciding.proofs.adjudication.adjudicate.Goals as goal

pub new-orders-requires : goal.new-orders-requires
new-orders-requires c =
    let s = c.settle.new.self in
    let here = c.as_slice-2.ensures.value ∙ c.close_into.ensures.items ∙ ap close c.as_slice.ensures.value in
    record { indexed = subst (Indexed s.lookup) (sym here) (indexed_close s.lookup (vec_items s.orders) s.indexed) }

pub paths_into-requires-clause-inside : goal.paths_into-requires-clause-inside
paths_into-requires-clause-inside c =
    let s = c.settle.new.self in
    let here = c.new-orders.ensures ∙ c.as_slice-2.ensures.value ∙ c.close_into.ensures.items ∙ ap close c.as_slice.ensures.value in
    subst Inside (sym here) (inside_close (vec_items s.orders) s.inside)
