-- Where nothing is open there is one answer.
use Rattle.deciding_laws.proofs.Answers.{one_answer}
use Rattle.deciding_laws.proofs.one_answer_stands.Goals as goal

pub returns : goal.returns
returns c = one_answer
