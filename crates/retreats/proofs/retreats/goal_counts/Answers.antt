use Rattle.std.proofs.Common.{◌≡◌, ◌+◌, get_or, drop, None, ap, ◌∙◌, arith, rules}
use Rattle.retreats.specs.Retreating.{goals_in}
use Rattle.retreats.proofs.Leaving.{tally-start, tally_le, tally_past, tally_more, tally-end}
use Rattle.retreats.proofs.retreats.goal_counts.Goals as goal
use Rattle.retreats.proofs.retreats.goal_counts.Goals.{in-Some, in_default}

pub loop-goal-init : goal.loop-goal-init
loop-goal-init c = (search rules, tally-start c.args.goals.now)

pub overflow_add-counts : goal.overflow_add-counts
overflow_add-counts c =
    let l = c.loop-goal in
    let small = tally_le l.counts c.args.goals.now l.goal-index c.in-Some.to (omega arith) l.invariant.1 in
    search rules

pub loop-goal-preserved : goal.loop-goal-preserved
loop-goal-preserved c =
    let l = c.loop-goal in
    let goals = c.args.goals.now in
    let i = l.goal-index in
    elim c.match-goal.branch [
      | in-Some w ↦ (
        search rules,
        λ r low. ap (λ v. get_or v r 0 + goals_in r (drop (i + 1) goals)) w.counts-is ∙
            tally_more l.counts goals i w.in-Some.to (omega arith) (omega arith) l.invariant.0 w.in-Some.is l.invariant.1 r low,
      )
      | in_default w ↦ (
        search rules,
        let none : get_or goals i None ≡ None = search rules in
            λ r low. ap (λ v. get_or v r 0 + goals_in r (drop (i + 1) goals)) w.counts-is ∙ tally_past l.counts goals i (omega arith) none l.invariant.1 r low,
      )
    ]

pub returns : goal.returns
returns c = let l = c.loop-goal in tally-end l.counts c.args.goals.now l.goal-index (omega arith) l.invariant.1
