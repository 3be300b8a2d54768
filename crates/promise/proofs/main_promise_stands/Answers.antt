-- The main promise stands.
use Rattle.promise.proofs.Promise.{main_promise}
use Rattle.promise.proofs.main_promise_stands.Goals as goal

pub returns : goal.returns
returns c = main_promise
