use Rattle.order_laws.proofs.Turns.{any_order_of_many}
use Rattle.order_laws.proofs.any_order_of_many_stands.Goals as goal

pub returns : goal.returns
returns c = any_order_of_many
