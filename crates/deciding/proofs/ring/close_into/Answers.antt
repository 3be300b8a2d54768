use Rattle.std.proofs.Common.{refl, rules}
use Rattle.std.proofs.lemmas.Iterator.{YieldsList-from_slice, YieldsList-from_map}
use Rattle.paths.proofs.Refilled.{refilled}
use Rattle.deciding.specs.Outcome.{close_one}
use Rattle.deciding.proofs.ring.close_into.Goals as goal

pub returns-clause-items : goal.returns-clause-items
returns-clause-items c = refilled c.refill.ensures.items (YieldsList-from_map _ close_one (YieldsList-from_slice c.args.xs.now (cc)) refl (λ x r q k. search rules))
