use Rattle.std.proofs.Common.{vec_items, rules}
use Rattle.std.proofs.lemmas.Iterator.Adapters.{YieldsList-from_rev_slice}
use Rattle.geography.specs.Links.{Tied}
use Rattle.geography.proofs.Edges.{tied_none, tied_more, ends_at}
use Rattle.values.proofs.Backwards.{back_turn, back_end, back_none, back_more, back_all}
use Rattle.geography.proofs.links.tie.Goals as goal

pub loop-e-init : goal.loop-e-init
loop-e-init c = (c.requires.long, back_none (λ es. Tied es (vec_items c.args.neighbours.now)) c.args.edges.now (tied_none 256 (vec_items c.args.neighbours.now) c.requires.blank))

pub join-requires : goal.join-requires
join-requires c =
    let es = c.args.edges.now in
    let e = ends_at c.requires.ends (back_turn es (YieldsList-from_rev_slice es (cc)) c.loop-e.yielded _ c.loop-e.yielded_by _ _ c.in-Some.e c.in-Some.is c.next.ensures.steps) in
    search rules

pub join-requires-in-loop-e : goal.join-requires-in-loop-e
join-requires-in-loop-e c =
    let es = c.args.edges.now in
    let e = ends_at c.requires.ends (back_turn es (YieldsList-from_rev_slice es (cc)) c.loop-e.yielded _ c.loop-e.yielded_by _ _ c.in-Some.e c.in-Some.is c.next.ensures.steps) in
    search rules

pub loop-e-preserved : goal.loop-e-preserved
loop-e-preserved c =
    let es = c.args.edges.now in
    let t = back_turn es (YieldsList-from_rev_slice es (cc)) c.loop-e.yielded _ c.loop-e.yielded_by _ _ c.in-Some.e c.in-Some.is c.next.ensures.steps in (
      c.join-in-loop-e.ensures.long,
      back_more (λ es. Tied es (vec_items c.join-in-loop-e.new.neighbours)) es c.loop-e.yielded c.in-Some.e c.in-Some.e.now t
          (tied_more _ c.in-Some.e.now (vec_items c.loop-e.neighbours) (vec_items c.join.new.neighbours) (vec_items c.join-in-loop-e.new.neighbours) c.loop-e.invariant.1 c.join.ensures.beside c.join-in-loop-e.ensures.beside),
    )

pub returns : goal.returns
returns c =
    let es = c.args.edges.now in
    record { long = c.loop-e.invariant.0; tied = back_all (λ es. Tied es (vec_items c.loop-e.neighbours)) es c.loop-e.yielded (back_end es (YieldsList-from_rev_slice es (cc)) c.loop-e.yielded _ c.loop-e.yielded_by _ _ c.in-None.is c.next.ensures.steps) c.loop-e.invariant.1 }
