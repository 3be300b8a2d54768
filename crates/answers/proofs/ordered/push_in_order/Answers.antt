use Rattle.std.proofs.Common.{◌≡◌, ◌++◌, length, get_or, take, None, vec_items, ap, ◌∙◌, length-take-le, arith, rules}
use Rattle.std.proofs.lemmas.List.{get_or-take, get_or_read}
use Rattle.tables.specs.Stands.{first_at}
use Rattle.tables.proofs.Regions.{region_at}
use Rattle.answers.specs.Words.{words_if, by_region}
use Rattle.answers.proofs.InOrder.{next_region, no_region, same_words}
use Rattle.answers.proofs.ordered.push_in_order.Goals as goal

pub loop-o-init : goal.loop-o-init
loop-o-init g c = no_region _ (vec_items c.args.out.now)

pub loop-o-preserved : goal.loop-o-preserved
loop-o-preserved g c =
    let words = g.X.Worded.words_of in
    let front = take c.args.n c.deref.result.now in
    next_region (λ k. words_if words (get_or front k None)) (vec_items c.args.out.now) (vec_items c.loop-o.out) (vec_items c.push_if.new.out) c.loop-o.o-index c.loop-o.invariant
    (c.in_ok-push_if.ensures ∙ ap (λ o. vec_items c.loop-o.out ++ words_if words o) (get_or_read front c.loop-o.o-index c.o-item.result c.loop-o-test.true c.o-item.is None))

pub returns : goal.returns
returns g c =
    let words = g.X.Worded.words_of in
    let table = c.deref.result.now in
    let n = c.args.n in
    let wide : length table ≡ 256 = search rules in
    let long : length (take n table) ≡ n = length-take-le n table (omega (arith, wide, c.requires)) in
    let all : c.loop-o.o-index ≡ n = omega (arith, long, c.loop-o-test.false, c.loop-o.auto.o-index-end) in
    c.loop-o.invariant ∙ ap (λ k. vec_items c.args.out.now ++ by_region k (λ r. words_if words (get_or (take n table) r None))) all ∙
    ap (λ l. vec_items c.args.out.now ++ l)
    (same_words (λ r. words_if words (get_or (take n table) r None)) (λ r. words_if words (first_at g.X.Standing.piece r c.args.xs.now)) n
    (λ r low. ap (words_if words) (get_or-take n table r None low ∙ ap (λ t. get_or t r None) c.deref.ensures.value ∙ region_at None (first_at g.X.Standing.piece) (vec_items c.in_ok-table.table) c.args.xs.now r c.in_ok-table.ensures.1 (omega (arith, low, c.requires)))))
