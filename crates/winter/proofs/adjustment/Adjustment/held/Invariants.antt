use Rattle.std.proofs.Common.{◌≡◌, ℕ, ◌||◌, drop}
use Rattle.geography.specs.RegionSet.{has}
use Rattle.game.specs.Winter.{has_unit}
use Rattle.winter.proofs.adjustment.Adjustment.held.Given as goal

abbrev pub invariant-loop-u : goal.invariant-loop-u
invariant-loop-u l = (r : ℕ) → (has l.held r || has_unit l.self.power (drop l.u-index l.self.units.now) r) ≡ has_unit l.self.power l.self.units.now r
