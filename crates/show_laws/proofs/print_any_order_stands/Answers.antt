use Rattle.show_laws.proofs.AnyOrder.{print_any_order}
use Rattle.show_laws.proofs.print_any_order_stands.Goals as goal

pub returns : goal.returns
returns c = print_any_order
