-- Who goes and who comes in winter.
use Rattle.year_laws.proofs.Winters.{winter_law}
use Rattle.year_laws.proofs.winter_stands.Goals as goal

pub returns : goal.returns
returns c = winter_law
