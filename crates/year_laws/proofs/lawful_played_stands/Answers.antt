-- So do many.
use Rattle.year_laws.proofs.Kept.{lawful-played}
use Rattle.year_laws.proofs.lawful_played_stands.Goals as goal

pub returns : goal.returns
returns c = lawful-played
