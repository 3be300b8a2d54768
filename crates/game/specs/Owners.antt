-- Who owns the centres after the autumn's retreats. Assumes nothing.
use Rattle.std.specs.Prelude.{ℕ, ◌+◌, cond, List, [], ◌∷◌, Some, None, Option, nat_eq}
use Rattle.values.specs.Fold.{gather}
use Rattle.board.specs.declared.region.Region.{Region}
use Rattle.board.specs.declared.unit.Unit.{Unit}

-- whoever's unit stands in r, else whom it belonged to
abbrev pub holder : ℕ → List Unit → Option ℕ → Option ℕ
holder r us old = gather (λ u. nat_eq r u.region) (λ u rest. Some u.power) old us

-- region r, r + 1 and so on: a centre's holder; other regions belong to nobody
unfoldable pub owners_from : ℕ → List Region → List Unit → List (Option ℕ) → List (Option ℕ)
owners_from r [] us olds = []
owners_from r (q ∷ qs) us [] = []
owners_from r (q ∷ qs) us (old ∷ olds) = cond q.centre (holder r us old) None ∷ owners_from (r + 1) qs us olds
