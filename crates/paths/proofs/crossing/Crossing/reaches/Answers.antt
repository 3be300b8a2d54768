use Rattle.std.proofs.Common.{get_or, rules}
use Rattle.board.specs.Atlas.{board_of}
use Rattle.assignment.specs.Assignment.{nobody}
use Rattle.paths.proofs.Flooding.{touches-any}
use Rattle.paths.proofs.crossing.Crossing.reaches.Goals as goal

pub returns-then-carries : goal.returns-then-carries
returns-then-carries g c = λ rs same.
    let t = c.touches.ensures rs same in
    let u = touches-any (board_of c.args.self.now.water.atlas.now) (get_or c.args.self.now.water.xs.now c.args.i nobody).unit.region c.beside.result c.beside.ensures rs in
    search rules
