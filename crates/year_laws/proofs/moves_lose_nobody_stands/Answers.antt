-- Moves lose nobody.
use Rattle.year_laws.proofs.Counted.{moves_lose_nobody}
use Rattle.year_laws.proofs.moves_lose_nobody_stands.Goals as goal

pub returns : goal.returns
returns c = moves_lose_nobody
