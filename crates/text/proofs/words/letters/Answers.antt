use Rattle.std.proofs.Common.{sym, ◌∙◌, rules}
use Rattle.std.proofs.lemmas.Iterator.{YieldsList-from_slice}
use Rattle.std.proofs.lemmas.Iterator.Search.{all_from_yields_List}
use Rattle.values.proofs.Chains.{all_is}
use Rattle.text.specs.Words.{is_letter}
use Rattle.text.proofs.words.letters.Goals as goal

pub returns : goal.returns
returns c = all_from_yields_List is_letter _ _ _ c.all.ensures.ran (YieldsList-from_slice c.args.word.now (cc)) (λ x b q k. search rules) ∙ sym (all_is is_letter c.args.word.now)
