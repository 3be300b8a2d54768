use Rattle.std.proofs.Common.{None, vec_items, sym, refl, ◌∙◌, arith}
use Rattle.std.proofs.lemmas.Iterator.Adapters.{YieldsList-from_rev_slice}
use Rattle.values.specs.Fold.{gather}
use Rattle.values.proofs.Backwards.{back_turn, back_end, back_none, back_more, back_all}
use Rattle.aftermath.specs.Arrivals.{arrival_in, Arrived}
use Rattle.aftermath.proofs.Arriving.{arrived_past, arrived_more}
use Rattle.tables.proofs.Regions.{region_none}
use Rattle.tables.proofs.Stands.{none_alone}
use Rattle.aftermath.proofs.after_moves.arrivals.Goals as goal

pub loop-x-init : goal.loop-x-init
unfolding gather
loop-x-init c =
    let table = vec_items c.in_ok-table.table in
    (c.in_ok-table.ensures.len, back_none (Arrived table) c.args.xs.now (region_none None arrival_in table (λ r. refl) (c.in_ok-table.ensures.items_if_clones_equal (none_alone _ (λ a h. h)))))

pub loop-x-preserved-then-succeeded : goal.loop-x-preserved-then-succeeded
loop-x-preserved-then-succeeded c =
    let xs = c.args.xs.now in
    let t = back_turn xs (YieldsList-from_rev_slice xs (cc)) c.loop-x.yielded _ c.loop-x.yielded_by _ _ c.in-Some.x c.in-Some.is c.next.ensures.steps in
    let x = c.in-Some.x.now in (
      c.loop-x.invariant.0,
      back_more (Arrived _) xs c.loop-x.yielded c.in-Some.x x t
          (arrived_more (vec_items c.loop-x.table) x _ c.aim.result c.of.result (omega (arith, c.loop-x.table.ok.0)) c.aim.ensures (sym c.succeeded.ensures ∙ c.if-succeeded.true) c.of.ensures c.loop-x.invariant.1),
    )

pub loop-x-preserved : goal.loop-x-preserved
loop-x-preserved c =
    let xs = c.args.xs.now in
    let t = back_turn xs (YieldsList-from_rev_slice xs (cc)) c.loop-x.yielded _ c.loop-x.yielded_by _ _ c.in-Some.x c.in-Some.is c.next.ensures.steps in
    let x = c.in-Some.x.now in
    (c.loop-x.invariant.0, back_more (Arrived (vec_items c.loop-x.table)) xs c.loop-x.yielded c.in-Some.x x t (arrived_past (vec_items c.loop-x.table) x _ (sym c.succeeded.ensures ∙ c.if-succeeded.false) c.loop-x.invariant.1))

pub returns : goal.returns
returns c =
    let xs = c.args.xs.now in
    (c.loop-x.invariant.0, back_all (Arrived (vec_items c.loop-x.table)) xs c.loop-x.yielded (back_end xs (YieldsList-from_rev_slice xs (cc)) c.loop-x.yielded _ c.loop-x.yielded_by _ _ c.in-None.is c.next.ensures.steps) c.loop-x.invariant.1)
