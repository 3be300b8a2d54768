use Rattle.std.proofs.Common.{◌∙◌, arith, rules, tests}
use Rattle.std.proofs.lemmas.Result.{IfOk-weaker}
use Rattle.std.proofs.lemmas.Iterator.{YieldsList-from_range, items_from_collect}
use Rattle.std.proofs.lemmas.Iterator.Consumers.{YieldsList-from_filter}
use Rattle.geography.specs.RegionSet.{has}
use Rattle.answers.proofs.InOrder.{those_is}
use Rattle.answers.proofs.games.regions_in.Goals as goal

pub returns : goal.returns
returns c =
    IfOk-weaker c.collect.result _ _ (λ v e. e ∙ those_is c.args.n (has c.args.set))
    (items_from_collect _ c.collect.ensures.ran (YieldsList-from_filter _ (has c.args.set) (YieldsList-from_range 0 c.args.n c.args.n (cc) (omega arith)) c.filter.ensures.closure (λ x b q k. search (rules, tests))))
