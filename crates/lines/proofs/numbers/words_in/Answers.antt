use Rattle.std.proofs.Common.{◌≡◌, ◌<◌, length, get_or, None, sym, ap, ◌∙◌, rules}
use Rattle.std.proofs.lemmas.List.{take_rest}
use Rattle.std.proofs.lemmas.Result.{IfOk-weaker}
use Rattle.lines.specs.Numbers.{numbers_from}
use Rattle.lines.proofs.Steps.{words_spaced}
use Rattle.lines.proofs.numbers.words_in.Goals as goal

pub returns-in-32 : goal.returns-in-32
returns-in-32 c =
    let bs = c.args.bytes.now in
    let some : 0 < length bs = search rules in
    let first : get_or bs 0 0 ≡ 32 = search rules in
    IfOk-weaker c.numbers.result _ _ (λ o e. e ∙ ap (numbers_from None) (take_rest bs 1) ∙ sym (words_spaced bs some first)) c.numbers.ensures
