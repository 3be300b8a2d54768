use Rattle.std.proofs.Common.{◌≡◌, ℕ}
use Rattle.values.specs.Fold.{is_in}
use Rattle.geography.specs.RegionSet.{has}
use Rattle.winter.proofs.adjustment.Adjustment.goers.Given as goal

abbrev pub invariant-loop-r : goal.invariant-loop-r
invariant-loop-r l = (q : ℕ) → has l.gone q ≡ is_in q l.yielded
