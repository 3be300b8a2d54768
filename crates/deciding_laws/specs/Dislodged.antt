-- Who is dislodged, and by whom. Assumes nothing.
use Rattle.std.specs.Prelude.{◌≡◌, ℕ, Bool, false, ◌&&◌, List, [], ◌∷◌, nat_eq}
use mathlib.Core.List.{Memᴰ}
use Rattle.values.specs.Fold.{select}
use Rattle.values.specs.declared.tri.Tri.TheVariants.{Yes}
use Rattle.values.specs.Tri.{is_yes}
use Rattle.board.specs.Board.{Board}
use Rattle.board.specs.Order.{goes_to}
use Rattle.assignment.specs.declared.resolution.Resolution.{Resolution}
use Rattle.assignment.specs.Assignment.{dislodged}
use Rattle.deciding.specs.Outcome.{Ordered, outcome}
use Rattle.deciding_laws.specs.Assignments.{Apart}

-- a move into r that succeeded
abbrev pub came : ℕ → Resolution → Bool
came r x = goes_to r x.order && is_yes x.value

-- exactly one move into the region of x succeeded, and it is of a foreign power
pub record ByOneForeigner (ys : List Resolution) (x : Resolution) : Type 0 where
  pub by : Resolution
  pub alone : select (came x.unit.region) ys ≡ by ∷ []
  pub foreign : nat_eq by.unit.power x.unit.power ≡ false

-- whoever is dislodged is so by exactly one move, of a foreign power
abbrev pub DislodgedByOne : Type 0
DislodgedByOne = (m : Board) (os : List Ordered) → Apart os → (x : Resolution) → Memᴰ x (outcome m os) → dislodged x (outcome m os) ≡ Yes → ByOneForeigner (outcome m os) x
