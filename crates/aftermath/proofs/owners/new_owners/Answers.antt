use Rattle.std.proofs.Common.{◌≡◌, ◌+◌, ◌≤◌, ◌++◌, length, drop, vec_items, sym, ap, ◌∙◌, append-nil, subst, arith}
use Rattle.std.proofs.lemmas.List.{length_push}
use Rattle.std.proofs.lemmas.Iterator.{YieldsList-from_slice, YieldsList-from_zip}
use Rattle.std.proofs.lemmas.Iterator.Consumers.{YieldsList-turn, YieldsList-end}
use Rattle.board.specs.Atlas.{board_of}
use Rattle.game.specs.Owners.{owners_from}
use Rattle.aftermath.proofs.Holding.{turned, turned_all, owner_step, owners_end}
use Rattle.tables.proofs.Placement.{board_small}
use Rattle.aftermath.proofs.owners.new_owners.Goals as goal

pub loop-region-preserved : goal.loop-region-preserved
loop-region-preserved c =
    let atlas = c.args.atlas.now in
    let qs = vec_items atlas.regions in
    let table = vec_items c.in_ok-table.table in
    let us = c.args.units.now in
    let olds = c.args.owners.now in
    let n = length c.loop-region.yielded in
    let second : c.zip.result.b.rest.now ≡ table = c.zip.ensures.second.0 in
    let read = ap (λ z. z.a.b.rest.now) c.into_iter-region-iterator.ensures.into_iter_gives ∙ ap (λ z. z.b.rest.now) c.zip-region-items.ensures.first ∙ second in
    let third : c.zip-region-items.result.b.rest.now ≡ olds = c.zip-region-items.ensures.second.0 in
    let owned = ap (λ z. z.b.rest.now) c.into_iter-region-iterator.ensures.into_iter_gives ∙ third in
    let road = YieldsList-from_zip {s = c.into_iter-region-iterator.result} (YieldsList-from_zip (YieldsList-from_slice qs (cc)) (YieldsList-from_slice table read)) (YieldsList-from_slice olds owned) in
    let t = YieldsList-turn road c.loop-region.yielded c.loop-region.region-iterator c.loop-region.yielded_by c.next.result c.next.new.self ((c.in-Some.region, c.in-Some.unit), c.in-Some.old) c.in-Some.is c.next.ensures.steps in
    let r = turned qs table olds n c.in-Some.region.now c.in-Some.unit.now c.in-Some.old.now t.0 t.1 in
    let small : length qs ≤ 128 = board_small (board_of atlas) atlas.good in
    let e = sym (length_push c.loop-region.yielded ((c.in-Some.region, c.in-Some.unit), c.in-Some.old)) in
    subst (λ k. vec_items c.push.new.self ++ owners_from k (drop k qs) us (drop k olds) ≡ owners_from 0 qs us olds) e
    (ap (λ l. l ++ owners_from (n + 1) (drop (n + 1) qs) us (drop (n + 1) olds)) c.in_ok-push.ensures.items ∙
    owner_step qs us olds table (vec_items c.loop-region.out) n c.in-Some.region.now c.in-Some.unit.now c.in-Some.old.now c.owner_of.result c.in_ok-table.ensures.1 r.on_board r.owned (omega (arith, r.on_board)) r.region r.unit r.owner c.owner_of.ensures ∙
    c.loop-region.invariant)

pub returns : goal.returns
returns c =
    let atlas = c.args.atlas.now in
    let qs = vec_items atlas.regions in
    let table = vec_items c.in_ok-table.table in
    let us = c.args.units.now in
    let olds = c.args.owners.now in
    let n = length c.loop-region.yielded in
    let second : c.zip.result.b.rest.now ≡ table = c.zip.ensures.second.0 in
    let read = ap (λ z. z.a.b.rest.now) c.into_iter-region-iterator.ensures.into_iter_gives ∙ ap (λ z. z.b.rest.now) c.zip-region-items.ensures.first ∙ second in
    let third : c.zip-region-items.result.b.rest.now ≡ olds = c.zip-region-items.ensures.second.0 in
    let owned = ap (λ z. z.b.rest.now) c.into_iter-region-iterator.ensures.into_iter_gives ∙ third in
    let road = YieldsList-from_zip {s = c.into_iter-region-iterator.result} (YieldsList-from_zip (YieldsList-from_slice qs (cc)) (YieldsList-from_slice table read)) (YieldsList-from_slice olds owned) in
    let t = YieldsList-end road c.loop-region.yielded c.loop-region.region-iterator c.loop-region.yielded_by c.next.result c.next.new.self c.in-None.is c.next.ensures.steps in
    let done = turned_all qs table olds n (board_small (board_of atlas) atlas.good) (omega (arith, c.in_ok-table.table.ok.0, c.in_ok-table.ensures.0)) t.1 in
    sym (append-nil (vec_items c.loop-region.out)) ∙ ap (λ l. vec_items c.loop-region.out ++ l) (sym (owners_end qs us olds n done)) ∙ c.loop-region.invariant
