use Rattle.std.proofs.Common.{◌≡◌, vec_items, refl, ◌∙◌}
use Rattle.game.specs.Game.{next}
use Rattle.game.specs.Turn.{turn}
use Rattle.position.specs.Position.{board_of, game_of}
use Rattle.adjudicator.specs.Settled.{left}
use Rattle.adjudicator.proofs.Onward.{after-moves, stays-lawful}
use Rattle.adjudicator.proofs.advance.moves.Goals as goal
use Rattle.adjudicator.proofs.advance.moves.Goals.{In_ok-moved}

-- what moves leave is the next game
onward : (c : In_ok-moved) → left c.args.p.now (vec_items c.in_ok-moved.moved.units) (vec_items c.in_ok-moved.moved.dislodged) c.in_ok-moved.moved.barred ≡ turn (board_of c.args.p.now) (game_of c.args.p.now) (vec_items c.args.texts.now.list)
onward c =
    let m = board_of c.args.p.now in
    let g = game_of c.args.p.now in
    let left-by = c.in_ok-moved.ensures.moved in
    after-moves m g (vec_items c.args.texts.now.list) (next g.phase) (vec_items c.in_ok-moved.moved.units) (vec_items c.in_ok-moved.moved.dislodged) c.in_ok-moved.moved.barred c.requires refl left-by.units left-by.dislodged left-by.barred

pub leave-requires : goal.leave-requires
leave-requires c =
    let p = c.args.p.now in
    stays-lawful (board_of p) (game_of p) (vec_items c.args.texts.now.list) p.atlas.good p.legal _ (onward (goal.at.leave-requires c).In_ok-moved)

pub returns : goal.returns
returns c = record { board = c.leave.ensures.board; game = c.leave.ensures.game ∙ onward (goal.at.returns c).In_ok-moved; reports = c.in_ok-moved.ensures.moved.reports }
