use Rattle.std.proofs.Common.{map, vec_items, sym, ap, ◌∙◌}
use Rattle.std.proofs.lemmas.Result.{IfOk-weaker}
use Rattle.board.specs.Atlas.{board_of}
use Rattle.game.specs.Retreats.{retreat_of}
use Rattle.retreats.proofs.Leaving.{closed_from}
use Rattle.retreats.proofs.retreats.retreat_goals.Goals as goal

pub returns : goal.returns
returns c =
    IfOk-weaker c.goals.result _ _
    (λ v h. (
      h.0,
      λ g like.
          h.1 g (closed_from g c.args.units.now c.args.dislodged.now c.with_units.result c.args.barred like c.with_units.ensures) ∙
          ap (map (retreat_of (board_of c.args.atlas.now) g (vec_items c.args.texts.now.list))) (sym like.dislodged),
    ))
    c.goals.ensures
