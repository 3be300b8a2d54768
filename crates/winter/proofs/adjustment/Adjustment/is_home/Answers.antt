use Rattle.std.proofs.Common.{◌≡◌, Some, List, slice_index_or, eqb, ap, ◌∙◌, arith, rules, tests}
use Rattle.std.specs.Option.{option_eq, option_map, unwrap_or}
use Rattle.board.specs.declared.region.Region.{Region}
use Rattle.board.specs.Board.{nowhere}
use Rattle.game.specs.Retreats.{is_just}
use Rattle.retreats.proofs.Elements.{just_is}
use Rattle.winter.proofs.adjustment.Adjustment.is_home.Goals as goal

pub returns : goal.returns
returns c =
    let p = c.args.self.now.power in
    let home : c.and_then-home.result ≡ (unwrap_or (option_map (λ r. r.now) c.get.result) nowhere).home = search (rules, tests) in
    let test : c.eq.result ≡ option_eq eqb c.and_then-home.result (Some p) = search rules in
    test ∙ just_is p c.and_then-home.result ∙ ap (is_just p) (home ∙ ap (λ (region : Region). region.home) (c.get.ensures.lookup.4 (omega arith) nowhere) ∙ ap (λ (regions : List Region). (slice_index_or regions c.args.r nowhere).home) c.deref.ensures.value)
