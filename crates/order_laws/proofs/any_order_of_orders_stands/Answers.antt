use Rattle.order_laws.proofs.Deciding.{any_order_of_orders}
use Rattle.order_laws.proofs.any_order_of_orders_stands.Goals as goal

pub returns : goal.returns
returns c = any_order_of_orders
