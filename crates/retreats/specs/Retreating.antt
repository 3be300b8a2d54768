-- How the code's tables stand for a game in which retreats come next. Assumes nothing.
use Rattle.std.specs.Prelude.{◌≡◌, ℕ, cond, ◌||◌, List, [], ◌∷◌, ◌++◌, Some, None, Option, ◌==◌}
use Rattle.values.specs.Fold.{number, is_in}
use Rattle.geography.specs.declared.region_set.RegionSet.{RegionSet}
use Rattle.geography.specs.RegionSet.{has, Holds}
use Rattle.board.specs.declared.unit.Unit.{Unit}
use Rattle.game.specs.declared.phase.Dislodged.{Dislodged}
use Rattle.game.specs.Game.{Game}
use Rattle.game.specs.Retreats.{occupied, is_just}
use Rattle.tables.specs.ByRegion.{ByRegion}

-- the units, those dislodged and the barred regions of just this game
pub record Retreating (g : Game) (us : List Unit) (ds : List Dislodged) (closed : RegionSet) : Type 0 where
  pub units : g.units ≡ us
  pub dislodged : g.dislodged ≡ ds
  pub barred : Holds closed g.barred

-- the regions that nobody may retreat to: those where a unit stands, and those barred
unfoldable pub Closed : RegionSet → Game → Type 0
Closed s g = (r : ℕ) → has s r ≡ (occupied r g.units || is_in r g.barred)

-- how many goals are in a region
abbrev pub goals_in : ℕ → List (Option ℕ) → ℕ
goals_in t goals = number (is_just t) goals

abbrev pub Counted : List ℕ → List (Option ℕ) → Type 0
Counted counts goals = ByRegion 0 goals_in counts goals

-- one that goes where no other goes
abbrev pub landing : List (Option ℕ) → Unit → Option ℕ → List Unit
landing goals u None = []
landing goals u (Some t) = cond (goals_in t goals == 1) (record { power = u.power; region = t; fleet = u.fleet } ∷ []) []

-- those dislodged, each with its goal
unfoldable pub landings : List (Option ℕ) → List Dislodged → List (Option ℕ) → List Unit
landings goals [] own = []
landings goals (d ∷ ds) [] = []
landings goals (d ∷ ds) (o ∷ own) = landing goals d.unit o ++ landings goals ds own
