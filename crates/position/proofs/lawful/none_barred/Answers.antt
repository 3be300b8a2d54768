use Rattle.std.proofs.Common.{◌∙◌, rules, arith}
use borrow.Author.Tests.{tests}
use Rattle.std.proofs.lemmas.Iterator.{YieldsList-from_range}
use Rattle.std.proofs.lemmas.Iterator.Search.{all_from_yields_List}
use Rattle.geography.specs.RegionSet.{has}
use Rattle.position.proofs.Barred.{none_of}
use Rattle.position.proofs.lawful.none_barred.Goals as goal

pub returns : goal.returns
returns c = all_from_yields_List _ _ _ _ c.all.ensures.ran (YieldsList-from_range 0 c.args.regions c.args.regions (cc) (omega arith)) (λ x b q k. search (rules, tests)) ∙ none_of (has c.args.barred) c.args.regions
