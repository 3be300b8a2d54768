use Rattle.std.proofs.Common.{refl, rules}
use Rattle.std.proofs.lemmas.Iterator.{YieldsList-from_slice, YieldsList-from_map}
use Rattle.assignment.specs.Assignment.{dislodged}
use Rattle.paths.proofs.Refilled.{refilled}
use Rattle.paths.proofs.table.dislodged_into.Goals as goal

pub returns-clause-items : goal.returns-clause-items
returns-clause-items c = refilled c.refill.ensures.items (YieldsList-from_map _ (λ x. dislodged x c.args.orders.list.now) (YieldsList-from_slice c.args.orders.list.now (cc)) refl (λ x r q k. search rules))
