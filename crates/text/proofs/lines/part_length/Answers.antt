use Rattle.std.proofs.Common.{◌≡◌, length, sym, ap, ◌∙◌, rules}
use Rattle.std.specs.Prelude.{◌==◌}
use Rattle.std.specs.Option.{unwrap_or}
use Rattle.std.proofs.lemmas.Iterator.{YieldsList-from_slice}
use Rattle.std.proofs.lemmas.Iterator.Search.{position_from_yields_List}
use Rattle.text.proofs.Chains.{part_length_is}
use Rattle.text.proofs.lines.part_length.Goals as goal

pub returns-clause-value : goal.returns-clause-value
returns-clause-value c =
    let bytes = c.args.bytes.now in
    let found = position_from_yields_List (λ b. b == c.args.sep) _ _ _ c.position.ensures.ran (YieldsList-from_slice bytes (cc)) (λ x b q k. search rules) in
    let here : c.unwrap_or.result ≡ unwrap_or c.position.result (length bytes) = search rules in
    here ∙ ap (λ o. unwrap_or o (length bytes)) found ∙ sym (part_length_is c.args.sep bytes)
