use Rattle.order_laws.proofs.Drawn.{any_drawing_lem}
use Rattle.order_laws.proofs.any_drawing_stands.Goals as goal

pub returns : goal.returns
returns c = any_drawing_lem
