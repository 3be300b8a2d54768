use Rattle.std.proofs.Common.{◌≡◌, Some, eqb, sym, ◌∙◌, rules, tests}
use Rattle.std.specs.Option.{option_eq}
use Rattle.std.proofs.lemmas.List.Sums.{length-filter}
use Rattle.std.proofs.lemmas.Iterator.{YieldsList-from_slice}
use Rattle.std.proofs.lemmas.Iterator.Consumers.{YieldsList-from_filter, count_from_yields_List}
use Rattle.values.proofs.Chains.{number_is}
use Rattle.game.specs.Retreats.{is_just}
use Rattle.retreats.proofs.Elements.{just_is}
use Rattle.winter.proofs.adjustment.Adjustment.centre_count.Goals as goal

pub returns : goal.returns
returns c =
    let os = c.args.self.now.owners.now in
    let p = c.args.self.now.power in
    let own = is_just p in
    count_from_yields_List c.filter.result _ c.count.ensures.ran
    (YieldsList-from_filter _ own (YieldsList-from_slice os cc) c.filter.ensures.closure (λ x b q k. let e : b ≡ option_eq eqb x.now (Some p) = search (rules, tests) in (search rules, e ∙ just_is p x.now))) ∙
    length-filter own os ∙ sym (number_is own os)
