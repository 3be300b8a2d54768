-- Where in the list a unit stands, and which orders are aimed at a region. Assumes nothing.
use Rattle.std.specs.Prelude.{◌≡◌, ℕ, ◌+◌, ◌<◌, Bool, cond, ◌&&◌, ◌||◌, List, [], ◌∷◌, ◌++◌, get_or, None, Option, ◌==◌}
use Rattle.std.specs.List.{position_from}
use Rattle.std.specs.Coded.{Π_prop, →_prop, Coded-set, coded_list, coded_ℕ}
use Rattle.std.proofs.Props.{props}
use Rattle.board.specs.declared.order.Order.{Order}
use Rattle.board.specs.Order.{is_move, is_support, aim}
use Rattle.assignment.specs.declared.resolution.Resolution.{Resolution}
use Rattle.assignment.specs.Assignment.{nobody}

-- where the first unit in r stands, if the list's head stands in place i
abbrev pub place_from : ℕ → ℕ → List Resolution → Option ℕ
place_from i r xs = position_from (λ x. r == x.unit.region) i xs

-- only moves and supports are decided
abbrev pub acts : Order → Bool
acts o = is_move o || is_support o

-- a move into r, or a support aimed at it
abbrev pub aimed_at : ℕ → Resolution → Bool
aimed_at r x = acts x.order && r == aim x.order

-- the places of the orders aimed at r, the last first, if the list's head stands in place i
unfoldable pub aimed_from : ℕ → ℕ → List Resolution → List ℕ
aimed_from i r [] = []
aimed_from i r (x ∷ xs) = aimed_from (i + 1) r xs ++ cond (aimed_at r x) (i ∷ []) []

abbrev pub places_aimed : ℕ → List Resolution → List ℕ
places_aimed r xs = aimed_from 0 r xs

-- for each region the place of its unit
unfoldable pub Placed : List (Option ℕ) → List Resolution → Type 0
Placed table xs = (r : ℕ) → r < 256 → get_or table r None ≡ place_from 0 r xs

-- for each region the places of the orders aimed at it
unfoldable pub Aimed : List (List ℕ) → List Resolution → Type 0
Aimed table xs = (r : ℕ) → r < 256 → get_or table r [] ≡ places_aimed r xs

-- each of them in one way at most
pub Placed-prop : (table : List (Option ℕ)) (xs : List Resolution) → IsProp (Placed table xs)
unfolding Placed
Placed-prop table xs = Π_prop (λ r. →_prop (Prim.hlevel props))

pub Aimed-prop : (table : List (List ℕ)) (xs : List Resolution) → IsProp (Aimed table xs)
unfolding Aimed
Aimed-prop table xs = Π_prop (λ r. →_prop (Coded-set (coded_list coded_ℕ) _ _))

-- every unit in a region below 128
unfoldable pub Inside : List Resolution → Type 0
Inside xs = (k : ℕ) → (get_or xs k nobody).unit.region < 128
