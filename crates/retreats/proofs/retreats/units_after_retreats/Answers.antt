use Rattle.std.proofs.Common.{◌++◌, vec_items, ap, ◌∙◌}
use Rattle.board.specs.Atlas.{board_of}
use Rattle.retreats.specs.Retreating.{landings}
use Rattle.retreats.proofs.Leaving.{landed}
use Rattle.retreats.proofs.retreats.units_after_retreats.Goals as goal

pub returns : goal.returns
returns c = λ g like.
    let us = c.args.units.now in
    let ds = c.args.dislodged.now in
    let goals = vec_items c.in_ok-goals.goals in
    let out = vec_items c.in_ok-out.out in
    c.in_ok-land.ensures ∙
    ap (λ l. out ++ landings l ds l) c.as_slice-2.ensures.value ∙
    ap (λ l. l ++ landings goals ds goals) c.in_ok-out.ensures.items ∙
    landed (board_of c.args.atlas.now) g (vec_items c.args.texts.now.list) us ds goals like.units like.dislodged (c.in_ok-goals.ensures.1 g like)
