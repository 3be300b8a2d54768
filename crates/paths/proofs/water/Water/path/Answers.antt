use Rattle.std.proofs.Common.{true, false}
use Rattle.board.specs.Atlas.{board_of}
use Rattle.paths.proofs.Flooding.{path_water}
use Rattle.paths.proofs.water.Water.path.Goals as goal

pub returns-then-chain-2 : goal.returns-then-chain-2
returns-then-chain-2 c =
    path_water (board_of c.args.self.atlas.now) c.args.x.now c.args.self.xs.now c.aim-to.result c.aim-to.ensures c.if-not-is_convoyed.ensures c.if-x.false false true c.if-chain.ensures c.if-chain-2.ensures

pub returns-else-chain-2 : goal.returns-else-chain-2
returns-else-chain-2 c =
    path_water (board_of c.args.self.atlas.now) c.args.x.now c.args.self.xs.now c.aim-to.result c.aim-to.ensures c.if-not-is_convoyed.ensures c.if-x.false false false c.if-chain.ensures c.if-chain-2.ensures
