use Rattle.std.proofs.Common.{rules}
use Rattle.board.specs.Atlas.{board_of}
use Rattle.retreats.proofs.Elements.{just_is}
use Rattle.retreats.proofs.Leaving.{may_closed}
use Rattle.retreats.proofs.pending.Pending.may_retreat.Goals as goal

pub returns-then-not-contains : goal.returns-then-not-contains
returns-then-not-contains c = λ g closed. let k = may_closed (board_of c.args.self.now.atlas.now) g c.args.d c.args.to c.args.self.now.closed closed in let j = just_is c.args.to c.args.d.from in search rules

pub returns-else-not-contains : goal.returns-else-not-contains
returns-else-not-contains c = λ g closed. let k = may_closed (board_of c.args.self.now.atlas.now) g c.args.d c.args.to c.args.self.now.closed closed in search rules
