use Rattle.std.proofs.Common.{arith}
use Rattle.calls.proofs.FiveWords.{texts_answered}
use Rattle.calls.proofs.texts.read_texts.Goals as goal

pub returns : goal.returns
returns c = texts_answered c.args.regions c.args.words.now (omega arith) (omega arith) c.as_chunks.result.0.now c.as_chunks.ensures.front c.read_entries.result c.read_entries.ensures
