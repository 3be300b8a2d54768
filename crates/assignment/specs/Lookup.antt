-- What the tables of a lookup say of an assignment. Assumes nothing.
use Rattle.std.specs.Prelude.{◌≤◌, List, map, length, vec_items}
use Rattle.std.specs.Coded.{le_prop}
use Rattle.assignment.specs.declared.lookup.Lookup.{Lookup}
use Rattle.assignment.specs.declared.resolution.Resolution.{Resolution}
use Rattle.assignment.specs.Places.{Placed, Aimed, Placed-prop, Aimed-prop}

pub record Indexed (l : Lookup) (xs : List Resolution) : Type 0 where
  pub few : length xs ≤ 128
  pub placed : Placed (vec_items l.place) xs
  pub aimed : Aimed (map vec_items (vec_items l.aimed)) xs

-- in one way at most
pub Indexed-prop : (l : Lookup) (xs : List Resolution) → IsProp (Indexed l xs)
Indexed-prop l xs a b i = record { few = le_prop a.few b.few i; placed = Placed-prop _ xs a.placed b.placed i; aimed = Aimed-prop _ xs a.aimed b.aimed i }
