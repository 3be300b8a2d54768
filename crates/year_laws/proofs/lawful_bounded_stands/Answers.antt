-- A lawful game is bounded.
use Rattle.year_laws.proofs.LawfulFacts.{lawful_bounded}
use Rattle.year_laws.proofs.lawful_bounded_stands.Goals as goal

pub returns : goal.returns
returns c = lawful_bounded
