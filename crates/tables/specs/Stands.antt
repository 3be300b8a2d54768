-- Who stands in each region. Assumes nothing.
use Rattle.std.specs.Prelude.{ℕ, List, None, Option, nat_eq}
use Rattle.values.specs.Fold.{find}
use Rattle.board.specs.declared.unit.Unit.{Unit}
use Rattle.tables.specs.ByRegion.{ByRegion}

-- the first that stands in region r
abbrev pub first_at : {X : Type 0} → (X → Unit) → ℕ → List X → Option X
first_at piece r xs = find (λ x. nat_eq r (piece x).region) xs

abbrev pub Tabled : {X : Type 0} → (X → Unit) → List (Option X) → List X → Type 0
Tabled piece table xs = ByRegion None (first_at piece) table xs
