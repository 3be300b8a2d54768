-- The answers keep the plain rules.
use Rattle.deciding_laws.proofs.Answers.{answers_keep_rules}
use Rattle.deciding_laws.proofs.answers_keep_rules_stands.Goals as goal

pub returns : goal.returns
returns c = answers_keep_rules
