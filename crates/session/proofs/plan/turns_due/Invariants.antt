use Rattle.std.proofs.Common.{◌≡◌, ◌-◌, ◌++◌, vec_items}
use Rattle.session.specs.Session.{turns_due}
use Rattle.session.specs.Tables.{blocks_of, turns_in}
use Rattle.session.proofs.plan.turns_due.Given as goal

abbrev pub invariant-loop : goal.invariant-loop
invariant-loop l = turns_in (vec_items l.turns) ++ turns_due l.first (l.count - l.counter) l.phase (blocks_of l.waiting) ≡ turns_due l.first l.count l.first (blocks_of l.blocks)
