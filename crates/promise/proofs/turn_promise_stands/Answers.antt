-- Every phase keeps its promise.
use Rattle.promise.proofs.Turns.{turn_promise}
use Rattle.promise.proofs.turn_promise_stands.Goals as goal

pub returns : goal.returns
returns c = turn_promise
