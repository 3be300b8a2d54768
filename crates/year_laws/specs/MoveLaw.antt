-- Who stands after moves and who is dislodged, in the players' words. Assumes nothing.
use Rattle.std.specs.Prelude.{◌≡◌, ℕ, Bool, true, cond, ◌⊎◌, ◌↔◌, List, Some, None}
use mathlib.Core.List.{Memᴰ}
use Rattle.values.specs.declared.tri.Tri.TheVariants.{Yes}
use Rattle.board.specs.Board.{Board}
use Rattle.board.specs.declared.order.Order.TheVariants.{Move}
use Rattle.board.specs.declared.unit.Unit.{Unit}
use Rattle.assignment.specs.declared.resolution.Resolution.{Resolution}
use Rattle.deciding.specs.Outcome.{outcome}
use Rattle.game.specs.declared.phase.Dislodged.{Dislodged}
use Rattle.game.specs.declared.text.Written.{Written}
use Rattle.game.specs.Game.{Game, is_moves}
use Rattle.game.specs.Lawful.{Lawful}
use Rattle.game.specs.Texts.{ordered}
use Rattle.game.specs.Turn.{turn}

-- x's order was a move to t, and it succeeded
pub record MovedTo (x : Resolution) (t : ℕ) : Type 0 where
  pub convoyed : Bool
  pub goes : x.order ≡ Move t convoyed
  pub succeeded : x.value ≡ Yes

-- y moved into the region of x, and x did not move away
pub record DislodgedBy (x y : Resolution) : Type 0 where
  pub enters : MovedTo y x.unit.region
  pub stays : (t : ℕ) → MovedTo x t → ⊥

-- u is a unit that nobody dislodged, where its move took it, or where it was
pub record StandsAfter (xs : List Resolution) (u : Unit) : Type 0 where
  pub was : Resolution
  pub one_of : Memᴰ was xs
  pub safe : (y : Resolution) → Memᴰ y xs → DislodgedBy was y → ⊥
  pub power : u.power ≡ was.unit.power
  pub kind : u.fleet ≡ was.unit.fleet
  pub place : MovedTo was u.region ⊎ (((t : ℕ) → MovedTo was t → ⊥) × (u.region ≡ was.unit.region))

-- after moves there stand just those
abbrev pub MoveLaw : Type 0
MoveLaw = (m : Board) (g : Game) (ws : List Written) → Lawful m g → is_moves g.phase ≡ true → (u : Unit) → Memᴰ u (turn m g ws).units ↔ StandsAfter (outcome m (ordered g.units ws)) u

-- d is a unit that some other dislodged, with the region that the attack came from unless it came over water
pub record WaitsAfter (xs : List Resolution) (d : Dislodged) : Type 0 where
  pub was : Resolution
  pub one_of : Memᴰ was xs
  pub unit : d.unit ≡ was.unit
  pub by : Resolution
  pub by_one_of : Memᴰ by xs
  pub dislodged : DislodgedBy was by
  pub from : d.from ≡ cond dislodged.enters.convoyed None (Some by.unit.region)

-- after moves just those are dislodged
abbrev pub DislodgeLaw : Type 0
DislodgeLaw = (m : Board) (g : Game) (ws : List Written) → Lawful m g → is_moves g.phase ≡ true → (d : Dislodged) → Memᴰ d (turn m g ws).dislodged ↔ WaitsAfter (outcome m (ordered g.units ws)) d
