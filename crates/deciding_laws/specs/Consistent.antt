-- The outcome is consistent. Assumes nothing.
use Rattle.std.specs.Prelude.{◌≡◌, true, false, List, map}
use mathlib.Core.List.{Memᴰ}
use Rattle.values.specs.declared.tri.Tri.TheVariants.{No}
use Rattle.values.specs.Tri.{is_open}
use Rattle.board.specs.Board.{Board}
use Rattle.board.specs.Order.{is_convoyed}
use Rattle.assignment.specs.declared.resolution.Resolution.{Resolution}
use Rattle.paths.specs.Paths.{path}
use Rattle.strength.specs.Decide.{decides}
use Rattle.deciding.specs.Outcome.{Ordered, outcome}
use Rattle.deciding_laws.specs.Assignments.{Apart, order_of, played}

-- a stranded army was ordered over water, came to nothing and has no path
pub record KeptAshore (m : Board) (ys : List Resolution) (x : Resolution) : Type 0 where
  pub over_water : is_convoyed x.order ≡ true
  pub failed : x.value ≡ No
  pub pathless : path m x ys ≡ No

pub record OutcomeFits (m : Board) (os : List Ordered) : Type 0 where
  -- the outcome has just the given units, with their orders as played
  pub units : map order_of (outcome m os) ≡ map (played m) os
  -- nothing is open
  pub known : (x : Resolution) → Memᴰ x (outcome m os) → is_open x.value ≡ false
  -- each order is just as all the others decide it
  pub fits : (x : Resolution) → Memᴰ x (outcome m os) → decides m x (outcome m os) x.order ≡ x.value
  pub stranded : (x : Resolution) → Memᴰ x (outcome m os) → x.stranded ≡ true → KeptAshore m (outcome m os) x

abbrev pub OutcomeConsistent : Type 0
OutcomeConsistent = (m : Board) (os : List Ordered) → Apart os → OutcomeFits m os
