-- The plain rules agree with the rules in spans.
use Rattle.deciding_laws.proofs.PlainAgrees.{plain-agrees}
use Rattle.deciding_laws.proofs.plain_agrees_stands.Goals as goal

pub returns : goal.returns
returns c = plain-agrees
