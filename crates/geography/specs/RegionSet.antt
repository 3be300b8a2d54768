-- What a set of regions in two words holds. Assumes nothing.
use Rattle.std.specs.Prelude.{◌≡◌, ℕ, ◌-◌, ◌/◌, ◌%◌, ◌^◌, Bool, cond, List, ◌==◌, nat_lt}
use Rattle.values.specs.Fold.{is_in}
use Rattle.geography.specs.declared.region_set.RegionSet.{RegionSet}

abbrev pub bit : ℕ → ℕ → Bool
bit w k = w / 2 ^ k % 2 == 1

-- the first word has the regions below 64, the second the others
abbrev pub has : RegionSet → ℕ → Bool
has s r = cond (nat_lt r 64) (bit s.low r) (bit s.high (r - 64))

-- the set has just what the list has
abbrev pub Holds : RegionSet → List ℕ → Type 0
Holds s qs = (q : ℕ) → has s q ≡ is_in q qs

abbrev pub empty : RegionSet
empty = record { low = 0; high = 0 }
