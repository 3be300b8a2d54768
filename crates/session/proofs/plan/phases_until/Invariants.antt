use Rattle.std.proofs.Common.{◌≡◌, ◌+◌, drop}
use Rattle.session.specs.Session.{phases_until}
use Rattle.session.specs.Tables.{blocks_of}
use Rattle.session.proofs.plan.phases_until.Given as goal

abbrev pub invariant-loop-block : goal.invariant-loop-block
invariant-loop-block l = l.count + phases_until l.first l.phase (blocks_of (drop l.block-index l.blocks)) ≡ phases_until l.first l.first (blocks_of l.blocks)
