-- The test and the facts say the same.
use Rattle.year_laws.proofs.LawfulFacts.{lawful_tested}
use Rattle.year_laws.proofs.lawful_tested_stands.Goals as goal

pub returns : goal.returns
returns c = lawful_tested
