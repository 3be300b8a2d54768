use Rattle.std.proofs.Common.{◌≡◌, None, Some, Option, ℕ, eqb, refl, ap, ◌∙◌, arith, rules}
use Rattle.std.specs.Option.{option_eq, option_flatten, unwrap_or}
use Rattle.game.specs.Retreats.{is_just}
use Rattle.retreats.proofs.Elements.{just_is}
use Rattle.winter.proofs.adjustment.Adjustment.owns.Goals as goal

flat_is : (o : Option (Option ℕ)) → option_flatten o ≡ unwrap_or o None
flat_is None = refl
flat_is (Some x) = refl

pub returns : goal.returns
returns c =
    let p = c.args.self.now.power in
    let test : c.eq.result ≡ option_eq eqb c.flatten.result (Some p) = search rules in
    let owner = c.flatten.ensures ∙ flat_is c.copied.result ∙ ap (λ (o : Option (Option ℕ)). unwrap_or o None) c.copied.ensures ∙ c.get.ensures.lookup.4 (omega arith) None in
    test ∙ just_is p c.flatten.result ∙ ap (is_just p) owner
