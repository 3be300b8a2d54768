-- Which fleets count, by a test of whether they are dislodged. Assumes nothing.
use Rattle.std.specs.Prelude.{Bool, List}
use Rattle.values.specs.declared.tri.Tri.{Tri}
use Rattle.assignment.specs.declared.resolution.Resolution.{Resolution}
use Rattle.assignment.specs.Assignment.{dislodged}

abbrev pub counts : (Tri → Bool) → List Resolution → Resolution → Bool
counts stays xs x = stays (dislodged x xs)
