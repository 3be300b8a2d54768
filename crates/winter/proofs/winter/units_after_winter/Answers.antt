use Rattle.std.proofs.Common.{◌≡◌, true, vec_items, sym, ap, ◌∙◌, subst, arith}
use Rattle.values.specs.Fold.{all}
use Rattle.board.specs.Board.{stands}
use Rattle.board.specs.Atlas.{board_of}
use Rattle.game.specs.Winter.{winters, winter_of}
use Rattle.winter.proofs.Wintertime.{winter_stands, winters_more, winters_none}
use Rattle.winter.proofs.winter.units_after_winter.Goals as goal

pub loop-power-init : goal.loop-power-init
loop-power-init c =
    let m = board_of c.args.atlas.now in
    let copied = c.in_ok-standing.ensures.items in
    (copied ∙ winters_none m c.args.owners.now (vec_items c.args.texts.now.list) c.args.units.now, subst (λ us. all (stands m) us ≡ true) (sym copied) c.requires)

pub loop-power-preserved : goal.loop-power-preserved
loop-power-preserved c =
    let m = board_of c.args.atlas.now in
    let ws = vec_items c.args.texts.now.list in
    let owners = c.args.owners.now in
    let p = c.loop-power.power in
    let us = vec_items c.loop-power.standing in
    let is = c.in_ok-standing-2.ensures ∙ ap (winter_of m owners ws p) c.as_slice.ensures.value in (
      is ∙ ap (winter_of m owners ws p) c.loop-power.invariant.0 ∙ sym (winters_more m owners ws p c.args.units.now),
      subst (λ l. all (stands m) l ≡ true) (sym is) (winter_stands m owners ws p us (omega arith) c.loop-power.invariant.1),
    )

pub returns : goal.returns
returns c =
    let e : c.loop-power.power ≡ 7 = omega arith in
    c.loop-power.invariant.0 ∙ ap (λ n. winters (board_of c.args.atlas.now) c.args.owners.now (vec_items c.args.texts.now.list) n c.args.units.now) e
