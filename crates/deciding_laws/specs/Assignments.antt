-- Assignments of yes and no to the same units and orders: which are consistent, and when one agrees with another. Assumes nothing.
use Rattle.std.specs.Prelude.{◌≡◌, Bool, true, false, ◌||◌, List, [], ◌∷◌, map}
use mathlib.Core.List.{Memᴰ}
use Rattle.values.specs.Fold.{distinct}
use Rattle.values.specs.declared.tri.Tri.TheVariants.{Open}
use Rattle.values.specs.Tri.{is_open}
use Rattle.board.specs.Board.{Board}
use Rattle.board.specs.declared.order.Order.{Order}
use Rattle.board.specs.Order.{is_move, is_support}
use Rattle.board.specs.Legal.{as_played}
use Rattle.assignment.specs.declared.resolution.Resolution.{Resolution}
use Rattle.strength.specs.Decide.{decides}
use Rattle.deciding.specs.Outcome.{Ordered}

-- no two of the units stand in one region
abbrev pub Apart : List Ordered → Type 0
Apart os = distinct (map (λ o. o.unit.region) os) ≡ true

-- a unit with its order as played
abbrev pub played : Board → Ordered → Ordered
played m o = record { unit = o.unit; order = as_played m o.unit o.order }

abbrev pub order_of : Resolution → Ordered
order_of x = record { unit = x.unit; order = x.order }

-- moves and supports: the orders of which there is something to decide
abbrev pub acts : Order → Bool
acts o = is_move o || is_support o

-- the same unit, order and stranded mark, with nothing decided
abbrev pub reopened : Resolution → Resolution
reopened x = record { unit = x.unit; order = x.order; value = Open; stranded = x.stranded }

-- each move and each support is yes or no, and just as all the others decide it
pub record Consistent (m : Board) (ys : List Resolution) : Type 0 where
  pub known : (y : Resolution) → Memᴰ y ys → acts y.order ≡ true → is_open y.value ≡ false
  pub fits : (y : Resolution) → Memᴰ y ys → acts y.order ≡ true → decides m y ys y.order ≡ y.value

-- the same units, orders and stranded marks; and what the first has decided of a move or a support, the second has too
pub data Agrees : List Resolution → List Resolution → Type 0 where
  both_end : Agrees [] []
  both_go_on : {x y : Resolution} {xs ys : List Resolution} → reopened x ≡ reopened y → (acts x.order ≡ true → is_open x.value ≡ false → x.value ≡ y.value) → Agrees xs ys → Agrees (x ∷ xs) (y ∷ ys)
