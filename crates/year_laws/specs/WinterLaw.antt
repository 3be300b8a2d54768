-- Who goes and who comes in winter, in the players' words. Assumes nothing.
use Rattle.std.specs.Prelude.{◌≡◌, ℕ, ◌<◌, ◌≤◌, true, ◌⊎◌, ◌↔◌, List, Some, ◌≢◌}
use mathlib.Core.List.{Memᴰ}
use Rattle.board.specs.Board.{Board, can_stand, region_at, powers}
use Rattle.board.specs.declared.unit.Unit.{Unit}
use Rattle.game.specs.declared.phase.Phase.TheVariants.{Winter}
use Rattle.game.specs.declared.text.Text.TheVariants.{Build, Disband}
use Rattle.game.specs.declared.text.Written.{Written}
use Rattle.game.specs.Game.{Game}
use Rattle.game.specs.Lawful.{Lawful}
use Rattle.game.specs.Winter.{units_of, centres_of}
use Rattle.game.specs.Turn.{turn}
use Rattle.year_laws.specs.Words.{OnlyText}
use Rattle.year_laws.specs.OwnerLaw.{owner_of}

-- p's one text for r strikes what is there
abbrev pub Struck : List Written → ℕ → ℕ → Type 0
Struck ws p r = OnlyText ws p r Disband

-- of p's units, the one in r goes before the one in s: those struck go first, then the lower region
pub data GoesFirst (ws : List Written) (p r s : ℕ) : Type 0 where
  struck : Struck ws p r → (Struck ws p s → ⊥) → GoesFirst ws p r s
  lower : (Struck ws p r ↔ Struck ws p s) → r < s → GoesFirst ws p r s

-- p had more units than centres; `after` are all units after the winter
pub record Disbands (g : Game) (ws : List Written) (p : ℕ) (after : List Unit) : Type 0 where
  -- as many are left as there are centres
  pub left : units_of p after ≡ centres_of p g.owners
  -- nobody new comes
  pub stood : (u : Unit) → u.power ≡ p → Memᴰ u after → Memᴰ u g.units
  -- whoever went was to go before whoever stayed
  pub order : (u v : Unit) → u.power ≡ p → v.power ≡ p → Memᴰ u g.units → (Memᴰ u after → ⊥) → Memᴰ v after → GoesFirst ws p u.region v.region

-- p may build u: its one text for the region asks for such a unit, which can be there; it is a home of p that p owns;
-- and it is empty when p's turn comes, after the lower powers and before the others
pub record Buildable (m : Board) (g : Game) (ws : List Written) (p : ℕ) (after : List Unit) (u : Unit) : Type 0 where
  pub power : u.power ≡ p
  pub wrote : OnlyText ws p u.region (Build u.fleet)
  pub can : can_stand m u.fleet u.region ≡ true
  pub home : (region_at m u.region).home ≡ Some p
  pub owned : owner_of g u.region ≡ Some p
  pub free_of_lower : (v : Unit) → v.power < p → Memᴰ v after → v.region ≢ u.region
  pub free_of_others : (v : Unit) → p ≤ v.power → Memᴰ v g.units → v.region ≢ u.region

-- p had no more units than centres
pub record Builds (m : Board) (g : Game) (ws : List Written) (p : ℕ) (after : List Unit) : Type 0 where
  -- nobody goes
  pub stay : (u : Unit) → u.power ≡ p → Memᴰ u g.units → Memᴰ u after
  -- whoever is new was buildable
  pub new : (u : Unit) → u.power ≡ p → Memᴰ u after → Memᴰ u g.units ⊎ Buildable m g ws p after u
  -- no more units than centres
  pub few : units_of p after ≤ centres_of p g.owners
  -- the lower regions first
  pub order : (u v : Unit) → Buildable m g ws p after u → Buildable m g ws p after v → u.region < v.region → Memᴰ v after → Memᴰ u after
  -- something buildable is left out only when there are as many units as centres
  pub full : (u : Unit) → Buildable m g ws p after u → (Memᴰ u after → ⊥) → units_of p after ≡ centres_of p g.owners

-- what a winter is for each power; units of other powers are no part of it
pub record PowerWinter (m : Board) (g : Game) (ws : List Written) (p : ℕ) (after : List Unit) : Type 0 where
  pub disbands : centres_of p g.owners < units_of p g.units → Disbands g ws p after
  pub builds : units_of p g.units ≤ centres_of p g.owners → Builds m g ws p after

-- after a winter each power that had too many units has kept the last in order, and each that had too few has built the first
abbrev pub WinterLaw : Type 0
WinterLaw = (m : Board) (g : Game) (ws : List Written) → Lawful m g → g.phase ≡ Winter → (p : ℕ) → p < powers → PowerWinter m g ws p (turn m g ws).units
