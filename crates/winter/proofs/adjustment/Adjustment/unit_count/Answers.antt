use Rattle.std.proofs.Common.{sym, ◌∙◌, rules, tests}
use Rattle.std.proofs.lemmas.List.Sums.{length-filter}
use Rattle.std.proofs.lemmas.Iterator.{YieldsList-from_slice}
use Rattle.std.proofs.lemmas.Iterator.Consumers.{YieldsList-from_filter, count_from_yields_List}
use Rattle.values.proofs.Chains.{number_is}
use Rattle.game.specs.Winter.{of_power}
use Rattle.winter.proofs.adjustment.Adjustment.unit_count.Goals as goal

pub returns : goal.returns
returns c =
    let us = c.args.self.now.units.now in
    let mine = of_power c.args.self.now.power in
    count_from_yields_List c.filter.result _ c.count.ensures.ran (YieldsList-from_filter _ mine (YieldsList-from_slice us cc) c.filter.ensures.closure (λ x b q k. search (rules, tests))) ∙
    length-filter mine us ∙ sym (number_is mine us)
