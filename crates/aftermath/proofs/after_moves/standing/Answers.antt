use Rattle.std.proofs.Common.{◌+◌, not, ◌++◌, drop, vec_items, sym, ap, ◌∙◌, append-nil, arith}
use Rattle.std.proofs.lemmas.List.{drop_all}
use Rattle.values.specs.Fold.{gather, pick}
use Rattle.assignment.specs.Assignment.{nobody}
use Rattle.game.specs.AfterMoves.{is_dislodged, moved_unit}
use Rattle.tables.proofs.Folds.{pick_skip, pick_push}
use Rattle.aftermath.proofs.after_moves.standing.Goals as goal
use Rattle.aftermath.proofs.after_moves.standing.Goals.{then-not-is_dislodged+in_ok-push, else-not-is_dislodged}

pub loop-x-preserved : goal.loop-x-preserved
loop-x-preserved c =
    let xs = c.args.xs.now in
    let out = vec_items c.if-not-is_dislodged.out in
    elim c.if-not-is_dislodged.branch [
      | then-not-is_dislodged+in_ok-push w ↦
          pick_push (λ x. not (is_dislodged xs x)) moved_unit xs c.loop-x.x-index nobody (vec_items c.loop-x.out) out w.moved_unit.result (omega arith) (ap not (sym (c.is_dislodged.ensures xs c.requires.arrived) ∙ w.if-not-is_dislodged.true)) w.moved_unit.ensures
          (cc w.in_ok-push.ensures.items) ∙
          c.loop-x.invariant
      | else-not-is_dislodged w ↦
          ap (λ l. l ++ pick (λ x. not (is_dislodged xs x)) moved_unit (drop (c.loop-x.x-index + 1) xs)) (ap vec_items w.out-is) ∙
          ap (λ l. vec_items c.loop-x.out ++ l) (sym (pick_skip (λ x. not (is_dislodged xs x)) moved_unit xs c.loop-x.x-index nobody (omega arith) (ap not (sym (c.is_dislodged.ensures xs c.requires.arrived) ∙ w.if-not-is_dislodged.false)))) ∙ c.loop-x.invariant
    ]

pub returns : goal.returns
unfolding gather
returns c =
    let xs = c.args.xs.now in
    sym (append-nil (vec_items c.loop-x.out)) ∙ ap (λ l. vec_items c.loop-x.out ++ pick (λ x. not (is_dislodged xs x)) moved_unit l) (sym (drop_all c.loop-x.x-index xs (omega arith))) ∙ c.loop-x.invariant
