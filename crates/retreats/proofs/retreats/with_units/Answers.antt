use Rattle.std.proofs.Common.{◌||◌, eqb, arith}
use Rattle.geography.specs.RegionSet.{has}
use Rattle.board.specs.declared.unit.Unit.{Unit}
use Rattle.board.specs.Atlas.{board_of}
use Rattle.game.specs.Retreats.{occupied}
use Rattle.tables.proofs.Folds.{no_unit}
use Rattle.retreats.proofs.Elements.{region_small, or_turned, any_more, any_done}
use Rattle.retreats.proofs.retreats.with_units.Goals as goal

pub loop-u-init : goal.loop-u-init
loop-u-init c = λ r. or_turned (has c.args.start r) (occupied r c.args.units.now)

pub insert-requires : goal.insert-requires
insert-requires c = region_small (board_of c.args.atlas.now) c.args.units.now c.loop-u.u-index c.args.atlas.now.good c.requires (omega arith)

pub loop-u-preserved : goal.loop-u-preserved
loop-u-preserved c = λ r.
    let us = c.args.units.now in
    any_more (λ (u : Unit). eqb r u.region) us c.loop-u.u-index no_unit (has c.loop-u.taken r) (has c.insert.new.self r) (occupied r us || has c.args.start r) (omega arith) (c.insert.ensures r) (c.loop-u.invariant r)

pub returns : goal.returns
returns c = λ r.
    let us = c.args.units.now in
    any_done (λ (u : Unit). eqb r u.region) us c.loop-u.u-index (has c.loop-u.taken r) (occupied r us || has c.args.start r) (omega arith) (c.loop-u.invariant r)
