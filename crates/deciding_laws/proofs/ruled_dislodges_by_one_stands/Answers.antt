-- By the plain rules, one foreign move dislodges.
use Rattle.deciding_laws.proofs.Answers.{ruled_dislodges_by_one}
use Rattle.deciding_laws.proofs.ruled_dislodges_by_one_stands.Goals as goal

pub returns : goal.returns
returns c = ruled_dislodges_by_one
