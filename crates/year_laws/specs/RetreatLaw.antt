-- Who survives a phase of retreats, in the players' words. Assumes nothing.
use Rattle.std.specs.Prelude.{◌≡◌, ℕ, true, false, ◌⊎◌, ◌↔◌, List, Some, ◌≢◌}
use mathlib.Core.List.{Memᴰ}
use Rattle.board.specs.Board.{Board}
use Rattle.board.specs.Legal.{steps}
use Rattle.board.specs.declared.order.Order.TheVariants.{Move}
use Rattle.board.specs.declared.unit.Unit.{Unit}
use Rattle.game.specs.declared.phase.Dislodged.{Dislodged}
use Rattle.game.specs.declared.text.Text.TheVariants.{Command}
use Rattle.game.specs.declared.text.Written.{Written}
use Rattle.game.specs.Game.{Game, is_retreats}
use Rattle.game.specs.Lawful.{Lawful}
use Rattle.game.specs.Turn.{turn}
use Rattle.year_laws.specs.Words.{OnlyText}

-- the dislodged unit d retreats to t: the one text of its power for its region is a move there, not over water; it is a step; nobody stands there; it isn't barred; the attack didn't come from there
pub record Retreats (m : Board) (g : Game) (ws : List Written) (d : Dislodged) (t : ℕ) : Type 0 where
  pub wrote : OnlyText ws d.unit.power d.unit.region (Command (Move t false))
  pub step : steps m d.unit t ≡ true
  pub empty : (u : Unit) → Memᴰ u g.units → u.region ≢ t
  pub unbarred : Memᴰ t g.barred → ⊥
  pub not_back : d.from ≡ Some t → ⊥

-- and it is the only one that retreats there
pub record Survives (m : Board) (g : Game) (ws : List Written) (d : Dislodged) (t : ℕ) : Type 0 where
  pub retreats : Retreats m g ws d t
  pub alone : (e : Dislodged) → Memᴰ e g.dislodged → Retreats m g ws e t → e ≡ d

-- u is a dislodged unit that survived, where it retreated to
pub record Arrived (m : Board) (g : Game) (ws : List Written) (u : Unit) : Type 0 where
  pub was : Dislodged
  pub one_of : Memᴰ was g.dislodged
  pub survives : Survives m g ws was u.region
  pub power : u.power ≡ was.unit.power
  pub kind : u.fleet ≡ was.unit.fleet

-- after retreats there stand just those who stood before, and those dislodged who survived
abbrev pub RetreatLaw : Type 0
RetreatLaw = (m : Board) (g : Game) (ws : List Written) → Lawful m g → is_retreats g.phase ≡ true → (u : Unit) → Memᴰ u (turn m g ws).units ↔ (Memᴰ u g.units ⊎ Arrived m g ws u)
