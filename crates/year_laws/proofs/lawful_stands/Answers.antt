-- Every phase keeps a game lawful.
use Rattle.year_laws.proofs.Kept.{lawful_kept}
use Rattle.year_laws.proofs.lawful_stands.Goals as goal

pub returns : goal.returns
returns c = lawful_kept
