-- A table that has for each region what a list comes to there. Assumes nothing.
use Rattle.std.specs.Prelude.{◌≡◌, ℕ, ◌<◌, List, slice_index_or}

-- 256 entries, so that a byte is always within them
unfoldable pub ByRegion : {X B : Type 0} → B → (ℕ → List X → B) → List B → List X → Type 0
ByRegion none at table xs = (r : ℕ) → r < 256 → slice_index_or table r none ≡ at r xs
