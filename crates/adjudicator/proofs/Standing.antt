-- A position keeps the promise: its board is good and its game lawful.
use Rattle.std.proofs.Common.{List, ap, ◌∙◌}
use Rattle.values.specs.Fold.{distinct}
use Rattle.position.specs.declared.position.Position.{Position}
use Rattle.position.specs.Position.{board_of, game_of}
use Rattle.promise.specs.Promise.{GamePromise}
use Rattle.promise.proofs.Turns.{game_promise}
use Rattle.year_laws.proofs.LawfulFacts.{lawful_facts}
use Rattle.year_laws.proofs.Kept.{ordered-places}
use Rattle.game.specs.declared.text.Written.{Written}
use Rattle.game.specs.Texts.{ordered}
use Rattle.deciding_laws.specs.Assignments.{Apart}
use Rattle.deciding_laws.specs.Promises.{DecidingPromises}
use Rattle.deciding_laws.proofs.Promises.{deciding_is_right}
use Rattle.order_laws.proofs.Deciding.{any_order_of_orders}
use Rattle.adjudicator.specs.Moved.{SameOutcome}

pub stands : (p : Position) → GamePromise (board_of p) (game_of p)
stands p = game_promise (board_of p) (game_of p) p.atlas.good (lawful_facts (board_of p) (game_of p) p.legal)

-- units that stand apart are ordered apart
apart : (p : Position) (ws : List Written) → Apart (ordered (game_of p).units ws)
apart p ws = ap distinct (ordered-places (game_of p).units ws) ∙ (lawful_facts (board_of p) (game_of p) p.legal).apart

pub decides_right : (p : Position) (ws : List Written) → DecidingPromises (board_of p) (ordered (game_of p).units ws)
decides_right p ws = deciding_is_right (board_of p) (ordered (game_of p).units ws) (apart p ws)

pub decides_anyhow : (p : Position) (ws : List Written) → SameOutcome (board_of p) (ordered (game_of p).units ws)
decides_anyhow p ws n ps same order = any_order_of_orders (board_of p) n (ordered (game_of p).units ws) ps same (apart p ws) order
