use Rattle.std.proofs.Common.{◌+◌, ◌++◌, get_or, None, drop, vec_items, sym, ap, ◌∙◌, append-nil, arith}
use Rattle.std.proofs.lemmas.List.{drop_all}
use Rattle.values.specs.Fold.{gather, pick}
use Rattle.assignment.specs.declared.resolution.Resolution.{Resolution}
use Rattle.assignment.specs.Assignment.{nobody}
use Rattle.game.specs.declared.phase.Dislodged.{Dislodged}
use Rattle.game.specs.AfterMoves.{is_dislodged, attacked_from}
use Rattle.tables.proofs.Folds.{pick_skip, pick_push}
use Rattle.aftermath.proofs.Arriving.{from_is, goes_on}
use Rattle.aftermath.proofs.after_moves.displaced.Goals as goal
use Rattle.aftermath.proofs.after_moves.displaced.Goals.{then-is_dislodged+in_ok-push, else-is_dislodged}

pub loop-x-preserved : goal.loop-x-preserved
loop-x-preserved c =
    let xs = c.args.xs.now in
    let made : Resolution → Dislodged = λ x. record { unit = x.unit; from = attacked_from x.unit.region xs } in
    let x = get_or xs c.loop-x.x-index nobody in
    elim c.if-is_dislodged.branch [
      | then-is_dislodged+in_ok-push w ↦
          pick_push (is_dislodged xs) made xs c.loop-x.x-index nobody (vec_items c.loop-x.out) (vec_items c.if-is_dislodged.out) (record { unit = x.unit; from = w.and_then-from.result }) (omega arith) (sym (c.is_dislodged.ensures xs c.requires.arrived) ∙ w.if-is_dislodged.true)
          (λ i. record { unit = x.unit; from = (goes_on (get_or c.args.table.now x.unit.region None) _ w.and_then-from.ensures ∙ from_is c.args.table.now xs x.unit.region c.requires.arrived (omega arith)) i })
          (cc w.in_ok-push.ensures.items) ∙
          c.loop-x.invariant
      | else-is_dislodged w ↦
          ap (λ l. l ++ pick (is_dislodged xs) made (drop (c.loop-x.x-index + 1) xs)) (ap vec_items w.out-is) ∙
          ap (λ l. vec_items c.loop-x.out ++ l) (sym (pick_skip (is_dislodged xs) made xs c.loop-x.x-index nobody (omega arith) (sym (c.is_dislodged.ensures xs c.requires.arrived) ∙ w.if-is_dislodged.false))) ∙ c.loop-x.invariant
    ]

pub returns : goal.returns
unfolding gather
returns c =
    let xs = c.args.xs.now in
    let made : Resolution → Dislodged = λ x. record { unit = x.unit; from = attacked_from x.unit.region xs } in
    sym (append-nil (vec_items c.loop-x.out)) ∙ ap (λ l. vec_items c.loop-x.out ++ pick (is_dislodged xs) made l) (sym (drop_all c.loop-x.x-index xs (omega arith))) ∙ c.loop-x.invariant
