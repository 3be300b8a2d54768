use Rattle.order_laws.proofs.Turns.{any_order_by_region}
use Rattle.order_laws.proofs.any_order_by_region_stands.Goals as goal

pub returns : goal.returns
returns c = any_order_by_region
