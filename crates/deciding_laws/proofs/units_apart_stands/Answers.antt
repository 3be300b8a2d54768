-- No two units end in one region.
use Rattle.deciding_laws.proofs.UnitsApart.{units_apart}
use Rattle.deciding_laws.proofs.units_apart_stands.Goals as goal

pub returns : goal.returns
returns c = units_apart
