-- An assignment: units with their orders and what is decided of each. Who stands where, and who is dislodged. Assumes nothing.
use Rattle.std.specs.Prelude.{ℕ, false, cond, List, Option, nat_eq}
use Rattle.values.specs.Fold.{gather, find}
use Rattle.values.specs.declared.tri.Tri.{Tri}
use Rattle.values.specs.declared.tri.Tri.TheVariants.{No}
use Rattle.values.specs.Tri.{not_tri, and_tri, or_tri}
use Rattle.board.specs.Order.{goes_to, is_move}
use Rattle.board.specs.declared.order.Order.TheVariants.{Hold}
use Rattle.assignment.specs.declared.resolution.Resolution.{Resolution}

-- what a read past the end gives
abbrev pub nobody : Resolution
nobody = record { unit = record { power = 0; region = 0; fleet = false }; order = Hold; value = No; stranded = false }

-- who stands in r
abbrev pub who : ℕ → List Resolution → Option Resolution
who r xs = find (λ x. nat_eq r x.unit.region) xs

-- whether some move into r succeeds
abbrev pub entered : ℕ → List Resolution → Tri
entered r xs = gather (λ x. goes_to r x.order) (λ x rest. or_tri x.value rest) No xs

-- a unit is dislodged if some move into its region succeeds and its own move, if it has one, doesn't (the club: thrown out)
abbrev pub dislodged : Resolution → List Resolution → Tri
dislodged x xs = cond (is_move x.order) (and_tri (not_tri x.value) (entered x.unit.region xs)) (entered x.unit.region xs)
