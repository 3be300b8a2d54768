use Rattle.std.proofs.Common.{rules, tests}
use Rattle.std.proofs.lemmas.Iterator.{YieldsList-from_slice, YieldsList-from_map}
use Rattle.std.proofs.lemmas.Iterator.Adapters.{items_from_extend}
use Rattle.answers.specs.Words.{one_more}
use Rattle.answers.proofs.games.push_owners.Goals as goal

pub returns : goal.returns
returns c = let h = items_from_extend c.extend.result c.extend.ensures.ran (YieldsList-from_map _ one_more (YieldsList-from_slice c.args.owners.now cc) c.map.ensures.closure (λ x r q k. search (rules, tests))) in search rules
