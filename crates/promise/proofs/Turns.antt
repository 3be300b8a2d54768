-- What is promised of a phase and of a game, put together from the theorems about deciding, about the year and about the order of lists.
use mathlib.Core.Path.{◌≡◌, refl}
use mathlib.Core.Bool.{true}
use mathlib.Core.List.{List}
use Rattle.board.specs.Board.{Board, good_board}
use Rattle.deciding_laws.proofs.Promises.{deciding_is_right}
use Rattle.game.specs.declared.phase.Phase.{Phase}
use Rattle.game.specs.declared.phase.Phase.TheVariants.{SpringMoves, SpringRetreats, AutumnMoves, AutumnRetreats, Winter}
use Rattle.game.specs.declared.text.Written.{Written}
use Rattle.game.specs.Game.{Game, is_moves, next}
use Rattle.game.specs.Lawful.{Lawful}
use Rattle.game.specs.Texts.{ordered}
use Rattle.game.specs.Turn.{turn_in, turn}
use Rattle.year_laws.proofs.LawfulFacts.{lawful_tested, lawful_bounded}
use Rattle.year_laws.proofs.Kept.{lawful_kept}
use Rattle.year_laws.proofs.Moves.{move_law, dislodge_law}
use Rattle.year_laws.proofs.Barred.{barred_law}
use Rattle.year_laws.proofs.Retreats.{retreat_law}
use Rattle.year_laws.proofs.Owners.{autumn_owners, owners_stay}
use Rattle.year_laws.proofs.Winters.{winter_law}
use Rattle.year_laws.proofs.Counted.{nobody_gains_lem, moves_lose_nobody, winter_balances}
use Rattle.order_laws.proofs.AfterMoves.{ordered-apart}
use Rattle.order_laws.proofs.Turns.{any_order}
use Rattle.promise.specs.Promise.{MovesPromise, TurnPromise, GamePromise, TurnKept}

moves_promise : (m : Board) (g : Game) (ws : List Written) → good_board m ≡ true → Lawful m g → is_moves g.phase ≡ true → MovesPromise m g ws
moves_promise m g ws b l k =
    record {
      decided = deciding_is_right m (ordered g.units ws) (ordered-apart g.units ws l.apart);
      standing = move_law m g ws l k;
      waiting = dislodge_law m g ws l k;
      barred = barred_law m g ws b k;
      nobody_lost = moves_lose_nobody m g ws l k;
    }

phase_follows : (m : Board) (g : Game) (ws : List Written) → (turn m g ws).phase ≡ next g.phase
phase_follows m g ws = go g.phase refl
  where
    go : (p : Phase) → g.phase ≡ p → (turn_in p m g ws).phase ≡ next p
    go SpringMoves e = λ i. next (e i)
    go SpringRetreats e = refl
    go AutumnMoves e = λ i. next (e i)
    go AutumnRetreats e = refl
    go Winter e = refl

pub turn_promised : (m : Board) (g : Game) (ws : List Written) → good_board m ≡ true → Lawful m g → TurnPromise m g ws
turn_promised m g ws b l =
    record {
      phase = phase_follows m g ws;
      kept = lawful_kept m g ws b l;
      moves = moves_promise m g ws b l;
      retreats = retreat_law m g ws l;
      taken = autumn_owners m g ws b l;
      untaken = owners_stay m g ws;
      winter = winter_law m g ws l;
      balanced = winter_balances m g ws l;
      nobody_gains = nobody_gains_lem m g ws;
      any_order = λ n h vs s a w. any_order m n g h ws vs s l a w;
    }

-- by the test, as contracts have it
pub turn_promise : TurnKept
turn_promise m g ws b l = turn_promised m g ws b ((lawful_tested m g).0 l)

pub game_promise : (m : Board) (g : Game) → good_board m ≡ true → Lawful m g → GamePromise m g
game_promise m g b l = record { good = b; stands = l; bounded = lawful_bounded m g l; turns = λ ws. turn_promised m g ws b l }
