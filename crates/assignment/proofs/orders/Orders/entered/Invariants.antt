use Rattle.std.proofs.Common.{◌≡◌, drop}
use Rattle.std.specs.List.{fold}
use Rattle.values.specs.Tri.{or_tri}
use Rattle.board.specs.Order.{goes_to}
use Rattle.assignment.specs.Assignment.{entered}
use Rattle.assignment.proofs.Aimed.{turn}
use Rattle.assignment.proofs.orders.Orders.entered.Given as goal

abbrev pub invariant-loop-i : goal.invariant-loop-i
invariant-loop-i l = fold (turn (λ x. goes_to l.r x.order) (λ x rest. or_tri x.value rest) l.self.list.now) l.acc (drop l.i-index l.i-items) ≡ entered l.r l.self.list.now
