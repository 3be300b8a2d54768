-- The main promise, put together from its parts.
use Rattle.year_laws.proofs.LawfulFacts.{lawful_tested}
use Rattle.year_laws.proofs.Kept.{lawful-played}
use Rattle.game.specs.Turn.{play}
use Rattle.order_laws.proofs.Drawn.{any_drawing_lem}
use Rattle.order_laws.proofs.Turns.{any_order_of_many}
use Rattle.promise.specs.Promise.{MainPromise}
use Rattle.promise.proofs.Turns.{game_promise}
use Rattle.promise.proofs.Calls.{begin_promise, refused_changes_nothing, calls_promise}

pub main_promise : MainPromise
main_promise =
    record {
      games = λ m g turns b l. game_promise m (play m turns g) b (lawful-played m g turns b ((lawful_tested m g).0 l));
      any_order = λ m n g h ts us s b l a t. any_order_of_many m n g h ts us s b ((lawful_tested m g).0 l) a t;
      any_drawing = λ m n r x y. record { regions = r; march = any_drawing_lem m.march n.march x; sail = any_drawing_lem m.sail n.sail y };
      tested = lawful_tested;
      begins = begin_promise;
      refused = refused_changes_nothing;
      calls = calls_promise;
    }
