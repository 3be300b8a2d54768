use Rattle.std.proofs.Common.{◌≡◌, ℕ, length, vec_items, slice_get, Ok, ap, ◌∙◌, ◌++◌, take, arith, rules}
use Rattle.std.specs.List.{filter_map, range_with_len}
use Rattle.std.specs.Option.{option_to_list}
use Rattle.std.proofs.lemmas.Iterator.{YieldsList-from_range, YieldsList-from_take}
use Rattle.std.proofs.lemmas.Iterator.Consumers.{YieldsList-at, YieldsList-from_filter_map}
use Rattle.std.proofs.lemmas.Iterator.Adapters.{items_from_extend}
use Rattle.board.specs.Atlas.{board_of}
use Rattle.game.specs.Texts.{text_for}
use Rattle.game.specs.Winter.{may_build, build_in}
use Rattle.winter.proofs.Choosing.{given_is}
use Rattle.retreats.proofs.Elements.{first_of}
use Rattle.winter.proofs.Wintertime.{one_at_most}
use Rattle.winter.proofs.adjustment.Adjustment.build.Goals as goal

pub returns : goal.returns
returns c =
    let s = c.args.self.now in
    let m = board_of s.atlas.now in
    let n = length m.regions in
    let out = λ (r : ℕ). may_build m s.power s.owners.now s.units.now r (build_in (text_for s.power r (vec_items s.texts.now.list))) in
    let give = λ (r : ℕ). slice_get (out r) 0 in
    let all = items_from_extend {E = ℕ} (Ok tt) c.in_ok-extend.ensures.ran
    (YieldsList-from_take c.args.most
    (YieldsList-at c.take.ensures.source
    (YieldsList-from_filter_map _ give (YieldsList-from_range 0 c.len-n.result n (cc) (omega (arith, s.atlas.now.regions.ok.0))) c.filter_map.ensures.closure
    (λ x o q k. let e : option_to_list o ≡ out x = search rules in (search rules, first_of o (out x) e)))) c.take.ensures.count) in
    all.0 ∙ ap (λ l. l ++ take c.args.most (filter_map give (range_with_len 0 n))) c.in_ok-out.ensures.items ∙
    ap (λ l. s.units.now ++ take c.args.most l) (given_is n give out (λ r. one_at_most m s.power s.owners.now s.units.now r (build_in (text_for s.power r (vec_items s.texts.now.list)))))
