-- The empty board is good, and the empty game lawful on it. Assumes nothing.
use Rattle.std.proofs.Common.{◌≡◌, true, List, [], refl, arith}
use Rattle.values.specs.Fold.{all, gather, count_up, distinct}
use Rattle.geography.specs.declared.links.Edge.{Edge}
use Rattle.geography.specs.RegionSet.{empty}
use Rattle.geography.specs.Links.{Ends}
use Rattle.board.specs.Board.{good_board}
use Rattle.game.specs.declared.phase.Phase.TheVariants.{SpringMoves}
use Rattle.game.specs.Lawful.{lawful, good_owners}
use Rattle.position.specs.Tables.{board_from, game_from}

pub no_ends : (es : List Edge) → es ≡ [] → Ends es
unfolding Ends
no_ends es e = rw e (λ k h. absurd (omega arith))

pub empty_good : good_board (board_from [] [] []) ≡ true
unfolding all
empty_good = refl

pub empty-lawful : lawful (board_from [] [] []) (game_from 0 SpringMoves [] [] empty []) ≡ true
unfolding all gather count_up distinct good_owners
empty-lawful = refl
