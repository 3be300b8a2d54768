use Rattle.text.proofs.Steps.{some_word}
use Rattle.text.proofs.words.Words.end.Goals as goal

pub returns-then-self : goal.returns-then-self
returns-then-self c = (rw c.if-self.true (some_word c.args.self.now.rest.now), c.unreadable.ensures)
