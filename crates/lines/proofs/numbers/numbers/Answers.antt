use Rattle.std.proofs.Common.{◌+◌, [], ◌∷◌, ◌++◌, drop, Some, vec_items, sym, ap, ◌∙◌}
use Rattle.lines.specs.Numbers.{finish, numbers_from}
use Rattle.lines.proofs.Steps.{resume, grows, ends, fails, finishes}
use Rattle.lines.proofs.numbers.numbers.Goals as goal
use Rattle.lines.proofs.numbers.numbers.Goals.{in-Grows, in-Ends+in_ok-push-in-Ends}

pub loop-b-preserved : goal.loop-b-preserved
loop-b-preserved c =
    let ws = vec_items c.loop-b.out in
    let bs = c.args.bytes.now in
    elim c.match-step_by.branch [
      | in-Grows w ↦
          ap (λ v. resume (vec_items v) (numbers_from c.match-step_by.number (drop (c.loop-b.b-index + 1) bs))) w.out-is ∙
          ap (λ s. resume ws (numbers_from s (drop (c.loop-b.b-index + 1) bs))) w.number-is ∙
          grows ws c.loop-b.number bs c.loop-b.b-index _ c.loop-b.invariant w.in-Grows.n c.loop-b-test.true (sym w.in-Grows.is ∙ c.step_by.ensures)
      | in-Ends+in_ok-push-in-Ends w ↦
          ap (λ v. resume (vec_items v) (numbers_from c.match-step_by.number (drop (c.loop-b.b-index + 1) bs))) w.out-is ∙
          ap (λ l. resume l (numbers_from c.match-step_by.number (drop (c.loop-b.b-index + 1) bs))) w.in_ok-push-in-Ends.ensures.items ∙
          ap (λ s. resume (ws ++ w.in-Ends.n ∷ []) (numbers_from s (drop (c.loop-b.b-index + 1) bs))) w.number-is ∙
          ends ws c.loop-b.number bs c.loop-b.b-index _ c.loop-b.invariant w.in-Ends.n c.loop-b-test.true (sym w.in-Ends.is ∙ c.step_by.ensures)
    ]

pub returns-in-Bad : goal.returns-in-Bad
returns-in-Bad c = fails (vec_items c.loop-b.out) c.loop-b.number c.args.bytes.now c.loop-b.b-index _ c.loop-b.invariant c.loop-b-test.true (sym c.in-Bad.is ∙ c.step_by.ensures)

pub returns-in_default : goal.returns-in_default
returns-in_default c =
    ap (λ s. resume (vec_items c.loop-b.out) (finish s)) (sym c.in_default.is) ∙ finishes (vec_items c.loop-b.out) c.loop-b.number c.args.bytes.now c.loop-b.b-index _ c.loop-b.invariant c.loop-b-test.false

pub returns : goal.returns
returns c =
    ap Some c.in_ok-push.ensures.items ∙ ap (λ s. resume (vec_items c.loop-b.out) (finish s)) (sym c.in-Some.is) ∙
    finishes (vec_items c.loop-b.out) c.loop-b.number c.args.bytes.now c.loop-b.b-index _ c.loop-b.invariant c.loop-b-test.false
