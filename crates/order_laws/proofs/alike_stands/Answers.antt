use Rattle.order_laws.proofs.Standing.{alike_stand}
use Rattle.order_laws.proofs.alike_stands.Goals as goal

pub returns : goal.returns
returns c = alike_stand
