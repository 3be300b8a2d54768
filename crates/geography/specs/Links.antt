-- Edges, which regions they join, and the sets of neighbours that stand for them. Assumes nothing.
use Rattle.std.specs.Prelude.{◌≡◌, ℕ, ◌<◌, Bool, ◌&&◌, ◌||◌, List, length, get_or, ◌==◌, slice_index_or}
use Rattle.values.specs.Fold.{any}
use Rattle.geography.specs.declared.links.Edge.{Edge}
use Rattle.geography.specs.declared.region_set.RegionSet.{RegionSet}
use Rattle.geography.specs.RegionSet.{has, empty}

-- an edge goes both ways
abbrev pub joins : ℕ → ℕ → Edge → Bool
joins a b e = (a == e.one && b == e.two) || (b == e.one && a == e.two)

abbrev pub linked : ℕ → ℕ → List Edge → Bool
linked a b es = any (joins a b) es

-- the set at a has just the regions joined to a
abbrev pub Tied : List Edge → List RegionSet → Type 0
Tied es sets = (a b : ℕ) → has (slice_index_or sets a empty) b ≡ linked a b es

-- what a read past the end gives
abbrev pub no_edge : Edge
no_edge = record { one = 0; two = 0 }

-- all ends below 128
unfoldable pub Ends : List Edge → Type 0
Ends es = (k : ℕ) → k < length es → ((get_or es k no_edge).one < 128) × ((get_or es k no_edge).two < 128)
