use Rattle.order_laws.proofs.Turns.{any_order}
use Rattle.order_laws.proofs.any_order_stands.Goals as goal

pub returns : goal.returns
returns c = any_order
