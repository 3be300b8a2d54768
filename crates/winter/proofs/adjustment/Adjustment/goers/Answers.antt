use Rattle.std.proofs.Common.{ℕ, not, ◌&&◌, ◌||◌, eqb, length, get_or, take, vec_items, sym, ap, ◌∙◌, arith, rules, tests}
use Rattle.std.proofs.lemmas.List.{map-id}
use Rattle.std.proofs.lemmas.Iterator.{YieldsList-from_range, YieldsList-from_take}
use Rattle.std.proofs.lemmas.Iterator.Consumers.{YieldsList-at, YieldsList-from_filter, YieldsList-from_chain}
use Rattle.values.specs.Fold.{any, is_in}
use Rattle.geography.specs.RegionSet.{has}
use Rattle.geography.proofs.Bitwise.{has_none}
use Rattle.board.specs.Atlas.{board_of}
use Rattle.game.specs.Winter.{struck}
use Rattle.tables.proofs.Placement.{board_small}
use Rattle.winter.proofs.Choosing.{in_more, turn_of, end_of}
use Rattle.winter.proofs.Wintertime.{order_is, order_below}
use Rattle.winter.proofs.adjustment.Adjustment.goers.Goals as goal

pub returns : goal.returns
returns c = λ q.
    let s = c.args.self.now in
    let m = board_of s.atlas.now in
    let n = length m.regions in
    let ws = vec_items s.texts.now.list in
    let held = c.held-held.result in
    let first = λ (r : ℕ). has held r && struck s.power ws r in
    let others = λ (r : ℕ). has held r && not (struck s.power ws r) in
    let end =
    end_of c.loop-r.yielded _ c.loop-r.yielded_by _ _ c.in-None.is c.next.ensures.steps
    (YieldsList-at c.into_iter-r-iterator.ensures.into_iter_gives
    (YieldsList-from_take c.args.most
    (YieldsList-at c.take-r-items.ensures.source
    (YieldsList-from_chain
    (YieldsList-at c.chain.ensures.first (YieldsList-from_filter _ first (YieldsList-from_range 0 c.len-n.result n (cc) (omega (arith, s.atlas.now.regions.ok.0))) c.filter-struck.ensures.closure (λ x b q k. search (rules, tests))))
    (YieldsList-at c.chain.ensures.second (YieldsList-from_filter _ others (YieldsList-from_range 0 c.len-n.result n (cc) (omega (arith, s.atlas.now.regions.ok.0))) c.filter-others.ensures.closure (λ x b q k. search (rules, tests)))) c.chain.ensures.first_done
    c.chain.ensures.second_done)) (search rules))) in
    c.loop-r.invariant q ∙ ap (is_in q) (sym (map-id c.loop-r.yielded) ∙ end.0 ∙ ap (take c.args.most) (order_is m s.power ws s.units.now held c.held-held.ensures))

pub loop-r-init : goal.loop-r-init
unfolding any
loop-r-init c = has_none

pub insert-requires : goal.insert-requires
insert-requires c =
    let s = c.args.self.now in
    let m = board_of s.atlas.now in
    let n = length m.regions in
    let ws = vec_items s.texts.now.list in
    let held = c.held-held.result in
    let first = λ (r : ℕ). has held r && struck s.power ws r in
    let others = λ (r : ℕ). has held r && not (struck s.power ws r) in
    let i = length c.loop-r.yielded in
    let r = c.in-Some.r in
    let turn =
    turn_of c.loop-r.yielded _ c.loop-r.yielded_by _ _ r c.in-Some.is c.next.ensures.steps
    (YieldsList-at c.into_iter-r-iterator.ensures.into_iter_gives
    (YieldsList-from_take c.args.most
    (YieldsList-at c.take-r-items.ensures.source
    (YieldsList-from_chain
    (YieldsList-at c.chain.ensures.first (YieldsList-from_filter _ first (YieldsList-from_range 0 c.len-n.result n (cc) (omega (arith, s.atlas.now.regions.ok.0))) c.filter-struck.ensures.closure (λ x b q k. search (rules, tests))))
    (YieldsList-at c.chain.ensures.second (YieldsList-from_filter _ others (YieldsList-from_range 0 c.len-n.result n (cc) (omega (arith, s.atlas.now.regions.ok.0))) c.filter-others.ensures.closure (λ x b q k. search (rules, tests)))) c.chain.ensures.first_done
    c.chain.ensures.second_done)) (search rules))) in
    let order = ap (take c.args.most) (order_is m s.power ws s.units.now held c.held-held.ensures) in
    let below = order_below m s.power ws s.units.now c.args.most i r (omega (arith, turn.0, ap length order)) in
    let small = board_small m s.atlas.now.good in
    omega (arith, turn.1, ap (λ l. get_or l i r) order)

pub loop-r-preserved : goal.loop-r-preserved
loop-r-preserved c = λ q.
    c.insert.ensures q ∙ ap (λ b. eqb q c.in-Some.r || b) (c.loop-r.invariant q) ∙ sym (in_more q c.loop-r.yielded c.in-Some.r)
