use Rattle.std.proofs.Common.{◌≡◌, ℕ, ◌||◌, drop}
use Rattle.geography.specs.RegionSet.{has}
use Rattle.game.specs.Retreats.{occupied}
use Rattle.retreats.proofs.retreats.with_units.Given as goal

abbrev pub invariant-loop-u : goal.invariant-loop-u
invariant-loop-u l = (r : ℕ) → (has l.taken r || occupied r (drop l.u-index l.units)) ≡ (occupied r l.units || has l.initial.taken r)
