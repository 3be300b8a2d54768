-- What rounds decide is necessary.
use Rattle.deciding_laws.proofs.Answers.{decided_is_necessary}
use Rattle.deciding_laws.proofs.decided_is_necessary_stands.Goals as goal

pub returns : goal.returns
returns c = decided_is_necessary
