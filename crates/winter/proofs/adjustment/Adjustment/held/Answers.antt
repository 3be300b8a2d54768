use Rattle.std.proofs.Common.{◌≡◌, ◌&&◌, ◌||◌, eqb, get_or, sym, ap, ◌∙◌, arith}
use Rattle.std.proofs.lemmas.Bool.{ne_eqb, eq-eqb}
use Rattle.geography.specs.RegionSet.{has}
use Rattle.board.specs.declared.unit.Unit.{Unit}
use Rattle.board.specs.Atlas.{board_of}
use Rattle.game.specs.Winter.{of_power, has_unit}
use Rattle.tables.proofs.Folds.{no_unit}
use Rattle.retreats.proofs.Elements.{region_small, any_more, any_done}
use Rattle.winter.proofs.adjustment.Adjustment.held.Goals as goal
use Rattle.winter.proofs.adjustment.Adjustment.held.Goals.{then-self-u, else-self-u}

pub insert-requires : goal.insert-requires
insert-requires c = let s = c.args.self.now in region_small (board_of s.atlas.now) s.units.now c.loop-u.u-index s.atlas.now.good s.units_stand (omega arith)

pub loop-u-preserved : goal.loop-u-preserved
loop-u-preserved c = λ r.
    let s = c.args.self.now in
    let us = s.units.now in
    let i = c.loop-u.u-index in
    let u = get_or us i no_unit in
    let before = c.loop-u.held in
    let mine = λ (v : Unit). of_power s.power v && eqb r v.region in
    let more = λ (e : has c.if-self-u.held r ≡ (mine u || has before r)). any_more mine us i no_unit (has before r) (has c.if-self-u.held r) (has_unit s.power us r) (omega arith) e (c.loop-u.invariant r) in
    elim c.if-self-u.branch [
      | then-self-u w ↦ more (ap (λ h. has h r) w.held-is ∙ w.insert.ensures r ∙ ap (λ b. (b && eqb r u.region) || has before r) (sym (eq-eqb s.power u.power w.if-self-u.true)))
      | else-self-u w ↦ more (ap (λ h. has h r) w.held-is ∙ ap (λ b. (b && eqb r u.region) || has before r) (sym (ne_eqb s.power u.power w.if-self-u.false)))
    ]

pub returns : goal.returns
returns c = λ r.
    let s = c.args.self.now in
    any_done (λ (v : Unit). of_power s.power v && eqb r v.region) s.units.now c.loop-u.u-index (has c.loop-u.held r) (has_unit s.power s.units.now r) (omega arith) (c.loop-u.invariant r)
