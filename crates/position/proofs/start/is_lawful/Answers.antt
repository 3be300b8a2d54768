use Rattle.std.proofs.Common.{rules}
use Rattle.board.specs.Atlas.{board_of}
use Rattle.position.proofs.LawfulTests.{lawful_is}
use Rattle.position.proofs.start.is_lawful.Goals as goal

pub returns-then-good_owners : goal.returns-then-good_owners
returns-then-good_owners c = let is = lawful_is (board_of c.args.atlas.now) c.args.phase c.args.units.now c.args.dislodged.now c.args.barred c.args.owners.now in search rules

pub returns-else-good_owners : goal.returns-else-good_owners
returns-else-good_owners c = let is = lawful_is (board_of c.args.atlas.now) c.args.phase c.args.units.now c.args.dislodged.now c.args.barred c.args.owners.now in search rules
