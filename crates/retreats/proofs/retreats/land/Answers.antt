use Rattle.std.proofs.Common.{◌≡◌, ℕ, Option, Ok, slice_get, vec_items, ap, ◌++◌, ◌∙◌, rules}
use Rattle.std.specs.Option.{option_to_list}
use Rattle.std.proofs.lemmas.Iterator.{YieldsList-from_slice, YieldsList-from_zip}
use Rattle.std.proofs.lemmas.Iterator.Consumers.{YieldsList-at, YieldsList-from_filter_map}
use Rattle.std.proofs.lemmas.Iterator.Adapters.{items_from_extend}
use Rattle.game.specs.declared.phase.Dislodged.{Dislodged}
use Rattle.retreats.specs.Retreating.{landing}
use Rattle.retreats.proofs.Elements.{first_of}
use Rattle.retreats.proofs.Leaving.{landings_zip}
use Rattle.retreats.proofs.retreats.land.Goals as goal

pub returns : goal.returns
returns c =
    let ds = c.args.dislodged.now in
    let goals = c.args.goals.now in
    let counted = c.requires.counted in
    let give = λ (p : Dislodged × Option ℕ). slice_get (landing goals p.0.unit p.1) 0 in
    let all = items_from_extend {E = ℕ} (Ok tt) c.in_ok-extend.ensures.ran
    (YieldsList-from_filter_map _ give (YieldsList-at c.filter_map-arrivals.ensures.source (YieldsList-from_zip (YieldsList-from_slice ds (cc)) (YieldsList-from_slice goals (cc)))) c.filter_map-arrivals.ensures.closure
    (λ x o q k. let e : option_to_list o ≡ landing goals x.0.now.unit x.1.now = search (rules, k) in (search rules, first_of o (landing goals x.0.now.unit x.1.now) e))) in
    all.0 ∙ ap (λ l. vec_items c.args.out.now ++ l) (landings_zip goals ds goals)
