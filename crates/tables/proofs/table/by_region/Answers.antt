use Rattle.std.proofs.Common.{arith, vec_items}
use Rattle.std.proofs.lemmas.Iterator.Adapters.{YieldsList-from_rev_slice}
use Rattle.values.proofs.Backwards.{back_turn, back_end, back_none, back_more, back_all}
use Rattle.tables.specs.Stands.{Tabled}
use Rattle.tables.proofs.Stands.{none_alone, nobody_stands, one_stands}
use Rattle.tables.proofs.table.by_region.Goals as goal

pub loop-x-init : goal.loop-x-init
loop-x-init g c =
    let table = vec_items c.in_ok-table.table in
    let blank = c.in_ok-table.ensures.items_if_clones_equal in
    (c.in_ok-table.ensures.len, back_none (Tabled g.X.Standing.piece table) c.args.xs.now (nobody_stands g.X.Standing.piece table (blank (none_alone _ (λ x h. h)))))

pub index_mut-requires : goal.index_mut-requires
index_mut-requires g c = omega arith

pub loop-x-preserved : goal.loop-x-preserved
loop-x-preserved g c =
    let xs = c.args.xs.now in
    let t = back_turn xs (YieldsList-from_rev_slice xs (cc)) c.loop-x.yielded _ c.loop-x.yielded_by _ _ c.in-Some.x c.in-Some.is c.next.ensures.steps in
    (c.loop-x.invariant.0, back_more (Tabled g.X.Standing.piece _) xs c.loop-x.yielded c.in-Some.x c.in-Some.x.now t (one_stands g.X.Standing.piece (vec_items c.loop-x.table) c.in-Some.x.now _ c.unit.result.region (omega (arith, c.loop-x.table.ok.0)) (cc) c.loop-x.invariant.1))

pub returns : goal.returns
returns g c =
    let xs = c.args.xs.now in
    (c.loop-x.invariant.0, back_all (Tabled g.X.Standing.piece (vec_items c.loop-x.table)) xs c.loop-x.yielded (back_end xs (YieldsList-from_rev_slice xs (cc)) c.loop-x.yielded _ c.loop-x.yielded_by _ _ c.in-None.is c.next.ensures.steps) c.loop-x.invariant.1)
