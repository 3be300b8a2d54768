use Rattle.std.proofs.Common.{ap, ◌∙◌}
use Rattle.std.specs.List.{fold}
use Rattle.values.specs.Tri.{or_tri}
use Rattle.values.specs.declared.tri.Tri.TheVariants.{No}
use Rattle.board.specs.Order.{goes_to}
use Rattle.assignment.proofs.Aimed.{turn, fold_aimed, goes_aimed}
use Rattle.assignment.proofs.orders.Orders.entered.Goals as goal

pub loop-i-init : goal.loop-i-init
loop-i-init c =
    ap (fold (turn (λ x. goes_to c.args.r x.order) (λ x rest. or_tri x.value rest) c.args.self.list.now) No) c.aimed_at-i-items.ensures.places ∙ fold_aimed (λ x. goes_to c.args.r x.order) (λ x rest. or_tri x.value rest) No c.args.r (goes_aimed c.args.r) c.args.self.list.now
