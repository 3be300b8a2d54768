use Rattle.std.proofs.Common.{◌≡◌, ℕ, ◌&&◌, ltb}
use Rattle.geography.specs.RegionSet.{has}
use Rattle.adjudicator.proofs.barred.barred_regions.Given as goal

abbrev pub invariant-loop-r : goal.invariant-loop-r
invariant-loop-r l = (q : ℕ) → has l.barred q ≡ (ltb q l.r && has l.p.barred q)
