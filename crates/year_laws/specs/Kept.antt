-- That lawful games lead to lawful ones, and what a lawful game is bounded by. Assumes nothing.
use Rattle.std.specs.Prelude.{◌≡◌, ℕ, ◌<◌, ◌≤◌, true, ◌↔◌, List, length, Some, None, slice_index_or}
use mathlib.Core.List.{Memᴰ}
use Rattle.board.specs.Board.{Board, good_board, region_at, powers}
use Rattle.board.specs.declared.unit.Unit.{Unit}
use Rattle.game.specs.declared.phase.Dislodged.{Dislodged}
use Rattle.game.specs.declared.text.Written.{Written}
use Rattle.game.specs.Game.{Game}
use Rattle.game.specs.Lawful.{Lawful, lawful}
use Rattle.game.specs.Turn.{turn, play}

-- whatever is written, a lawful game on a good board leads to a lawful one
abbrev pub LawfulKept : Type 0
LawfulKept = (m : Board) (g : Game) (ws : List Written) → good_board m ≡ true → Lawful m g → Lawful m (turn m g ws)

-- and so over any number of phases
abbrev pub LawfulPlayed : Type 0
LawfulPlayed = (m : Board) (g : Game) (turns : List (List Written)) → good_board m ≡ true → Lawful m g → Lawful m (play m turns g)

-- the test says just what the named facts say
abbrev pub LawfulTested : Type 0
LawfulTested = (m : Board) (g : Game) → (lawful m g ≡ true) ↔ Lawful m g

-- a unit's region is one of the board, and its power one that there is
pub record Placed (m : Board) (u : Unit) : Type 0 where
  pub region : u.region < length m.regions
  pub power : u.power < powers

-- how many there can be, and which numbers stand in a game
pub record Bounded (m : Board) (g : Game) : Type 0 where
  pub units : length g.units ≤ length m.regions
  pub dislodged : length g.dislodged ≤ length m.regions
  pub placed : (u : Unit) → Memᴰ u g.units → Placed m u
  pub out_placed : (d : Dislodged) → Memᴰ d g.dislodged → Placed m d.unit
  pub from : (d : Dislodged) (r : ℕ) → Memᴰ d g.dislodged → d.from ≡ Some r → r < length m.regions
  pub barred : (r : ℕ) → Memᴰ r g.barred → r < length m.regions
  -- an owner for each region; whoever owns something is a power, and what is owned is a centre
  pub owners : length g.owners ≡ length m.regions
  pub owner : (r p : ℕ) → slice_index_or g.owners r None ≡ Some p → (p < powers) × ((region_at m r).centre ≡ true)

-- no more units, and no more dislodged, than regions; every number of a lawful game is one that there is
abbrev pub LawfulBounded : Type 0
LawfulBounded = (m : Board) (g : Game) → Lawful m g → Bounded m g
