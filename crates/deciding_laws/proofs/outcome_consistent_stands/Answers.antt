-- The outcome is consistent.
use Rattle.deciding_laws.proofs.Consistent.{outcome_consistent}
use Rattle.deciding_laws.proofs.outcome_consistent_stands.Goals as goal

pub returns : goal.returns
returns c = outcome_consistent
