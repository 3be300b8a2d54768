use Rattle.std.proofs.Common.{sym, ◌∙◌, rules}
use borrow.Author.Tests.{tests}
use Rattle.std.proofs.lemmas.Bool.{ne_eqb}
use Rattle.std.proofs.lemmas.Iterator.{YieldsList-from_slice, YieldsList-from_zip}
use Rattle.std.proofs.lemmas.Iterator.Search.{all_from_yields_List}
use Rattle.game.specs.Lawful.{good_owner}
use Rattle.position.proofs.Elements.{owners_alike, owners_unlike}
use Rattle.position.proofs.lawful.good_owners.Goals as goal

pub returns-then-regions-owners : goal.returns-then-regions-owners
returns-then-regions-owners c =
    let both = YieldsList-from_zip (YieldsList-from_slice c.args.regions.now cc) (YieldsList-from_slice c.args.owners.now cc) in
    all_from_yields_List (λ p. good_owner p.0 p.1) c.all.new.self _ c.all.result c.all.ensures.ran both (λ x b q k. search (rules, tests)) ∙ owners_alike _ _ c.if-regions-owners.true

pub returns-else-regions-owners : goal.returns-else-regions-owners
returns-else-regions-owners c = ne_eqb _ _ c.if-regions-owners.false ∙ sym (owners_unlike _ _ c.if-regions-owners.false)
