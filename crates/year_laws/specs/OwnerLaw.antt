-- To whom the centres belong, in the players' words. Assumes nothing.
use Rattle.std.specs.Prelude.{◌≡◌, ℕ, true, false, List, Some, None, Option, ◌≢◌, slice_index_or}
use mathlib.Core.List.{Memᴰ}
use Rattle.board.specs.Board.{Board, good_board, region_at}
use Rattle.board.specs.declared.unit.Unit.{Unit}
use Rattle.game.specs.declared.phase.Phase.TheVariants.{AutumnRetreats}
use Rattle.game.specs.declared.text.Written.{Written}
use Rattle.game.specs.Game.{Game}
use Rattle.game.specs.Lawful.{Lawful}
use Rattle.game.specs.Turn.{turn}

-- the owner of r, if it has one
abbrev pub owner_of : Game → ℕ → Option ℕ
owner_of g r = slice_index_or g.owners r None

-- from the game g to the game h after it
pub record OwnersAfter (m : Board) (g h : Game) : Type 0 where
  -- a centre on which a unit stands belongs to that unit's power
  pub taken : (u : Unit) → Memᴰ u h.units → (region_at m u.region).centre ≡ true → owner_of h u.region ≡ Some u.power
  -- one on which nobody stands belongs to whom it belonged
  pub kept : (r : ℕ) → (region_at m r).centre ≡ true → ((u : Unit) → Memᴰ u h.units → u.region ≢ r) → owner_of h r ≡ owner_of g r
  -- what is no centre belongs to nobody
  pub nobody : (r : ℕ) → (region_at m r).centre ≡ false → owner_of h r ≡ None

-- after the autumn's retreats
abbrev pub AutumnOwners : Type 0
AutumnOwners = (m : Board) (g : Game) (ws : List Written) → good_board m ≡ true → Lawful m g → g.phase ≡ AutumnRetreats → OwnersAfter m g (turn m g ws)

-- at no other time does a centre change hands
abbrev pub OwnersStay : Type 0
OwnersStay = (m : Board) (g : Game) (ws : List Written) → (g.phase ≢ AutumnRetreats) → (turn m g ws).owners ≡ g.owners
