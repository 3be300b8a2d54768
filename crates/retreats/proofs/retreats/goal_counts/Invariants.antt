use Rattle.std.proofs.Common.{◌≡◌, drop, length}
use Rattle.retreats.proofs.Leaving.{Tallied}
use Rattle.retreats.proofs.retreats.goal_counts.Given as goal

abbrev pub invariant-loop-goal : goal.invariant-loop-goal
invariant-loop-goal l = (length l.counts ≡ 256) × Tallied l.counts (drop l.goal-index l.goals) l.goals
