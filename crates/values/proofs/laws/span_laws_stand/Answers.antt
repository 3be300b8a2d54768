use Rattle.values.proofs.SpanMeaning.{span_laws}
use Rattle.values.proofs.laws.span_laws_stand.Goals as goal

pub returns : goal.returns
returns c = span_laws
