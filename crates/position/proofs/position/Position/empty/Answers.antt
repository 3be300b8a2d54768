use Rattle.std.proofs.Common.{length, vec_items, ap, ◌∙◌}
use Rattle.geography.specs.RegionSet.{empty}
use Rattle.game.specs.declared.phase.Phase.TheVariants.{SpringMoves}
use Rattle.game.specs.Lawful.{lawful}
use Rattle.position.specs.Tables.{game_from}
use Rattle.position.proofs.Empty.{empty-lawful}
use Rattle.position.proofs.position.Position.empty.Goals as goal

pub invariant_of-result : goal.invariant_of-result
invariant_of-result c =
    let units = c.new.ensures.items in
    let dislodged = c.new-2.ensures.items in
    let owners = c.new-3.ensures.items in
    record {
      legal = ap (λ m. lawful m (game_from (length m.regions) SpringMoves (vec_items c.new.result) (vec_items c.new-2.result) empty (vec_items c.new-3.result))) c.in_ok-atlas.ensures ∙
          rw (units, dislodged, owners) empty-lawful;
    }
