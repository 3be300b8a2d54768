-- Which regions are closed to retreats, in the players' words. Assumes nothing.
use Rattle.std.specs.Prelude.{◌≡◌, ℕ, Bool, true, ◌↔◌, List}
use mathlib.Core.List.{Memᴰ}
use Rattle.values.specs.declared.tri.Tri.TheVariants.{No, Yes}
use Rattle.board.specs.Board.{Board, good_board}
use Rattle.board.specs.declared.order.Order.TheVariants.{Move}
use Rattle.assignment.specs.declared.resolution.Resolution.{Resolution}
use Rattle.paths.specs.Paths.{path}
use Rattle.deciding.specs.Outcome.{outcome}
use Rattle.game.specs.declared.text.Written.{Written}
use Rattle.game.specs.Game.{Game, is_moves}
use Rattle.game.specs.Texts.{ordered}
use Rattle.game.specs.Turn.{turn}

-- some move to r had a path and came to nothing
pub record Bounced (m : Board) (xs : List Resolution) (r : ℕ) : Type 0 where
  pub mover : Resolution
  pub one_of : Memᴰ mover xs
  pub convoyed : Bool
  pub goes : mover.order ≡ Move r convoyed
  pub failed : mover.value ≡ No
  pub had_path : path m mover xs ≡ Yes

-- after moves just those regions are barred to which some move with a path came to nothing
abbrev pub BarredLaw : Type 0
BarredLaw = (m : Board) (g : Game) (ws : List Written) → good_board m ≡ true → is_moves g.phase ≡ true → (r : ℕ) → Memᴰ r (turn m g ws).barred ↔ Bounced m (outcome m (ordered g.units ws)) r
