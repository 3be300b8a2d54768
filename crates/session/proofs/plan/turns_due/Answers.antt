use Rattle.std.proofs.Common.{◌≡◌, ℕ, suc, ◌+◌, ◌-◌, List, [], ◌∷◌, ◌++◌, vec_items, sym, ap, ◌∙◌, arith, Bor}
use Rattle.std.proofs.lemmas.List.{map_push, take_rest}
use Rattle.text.specs.declared.orders_file.Block.{Block}
use Rattle.session.specs.Session.{turns_due}
use Rattle.session.specs.Tables.{blocks_of, turns_in}
use Rattle.session.proofs.Due.{on_taken, on_waiting, on_empty, turns_end}
use Rattle.session.proofs.plan.turns_due.Goals as goal
use Rattle.session.proofs.plan.turns_due.Goals.{After-next-phase, in-len1-up+then-is_due+in_ok-push, else-waiting-lt1+in_ok-push-2, else-waiting-lt1-via-then-waiting-lt1, else-waiting-lt1-via-in-len1-up+else-is_due}

abbrev all : After-next-phase → List (List ℕ)
all c = turns_due c.args.first c.args.count c.args.first (blocks_of c.args.blocks.now)

abbrev left : After-next-phase → ℕ
left c = c.args.count - (c.loop.counter + 1)

so_far : (c : After-next-phase) → turns_in (vec_items c.loop.turns) ++ turns_due c.args.first (suc (left c)) c.loop.phase (blocks_of c.loop.waiting.now) ≡ all c
so_far c =
    let one_more : c.args.count - c.loop.counter ≡ suc (left c) = omega (arith, c.loop-test.true) in
    sym (ap (λ i. turns_in (vec_items c.loop.turns) ++ turns_due c.args.first i c.loop.phase (blocks_of c.loop.waiting.now)) one_more) ∙ c.loop.invariant

pub loop-preserved : goal.loop-preserved
loop-preserved c =
    let first = c.args.first in
    let k = c.loop.phase in
    let waiting = c.loop.waiting.now in
    let n = left c in
    let was = turns_in (vec_items c.loop.turns) in
    elim c.if-waiting-lt1.branch [
      | in-len1-up+then-is_due+in_ok-push w ↦
          let here = ap turns_in w.in_ok-push.ensures.items ∙ map_push (λ t. t.now) (vec_items c.loop.turns) w.as_slice.result ∙ ap (λ t. was ++ t ∷ []) w.as_slice.ensures.value in
          let others = ap (λ (blocks : Bor (List Block)). blocks_of blocks.now) w.waiting-is ∙ ap blocks_of (take_rest waiting 1) in
          (λ j. turns_in (vec_items (w.turns-is j)) ++ turns_due first n (c.next-phase.ensures j) (others j)) ∙
          on_taken first k waiting 0 n was (turns_in (vec_items w.push.new.self)) (all c) (so_far c) w.block-item.result w.block-item.is (omega arith) (sym w.is_due.ensures ∙ w.if-is_due.true) here
      | else-waiting-lt1+in_ok-push-2 w ↦
          let here = ap turns_in w.in_ok-push-2.ensures.items ∙ map_push (λ t. t.now) (vec_items c.loop.turns) _ in
          (λ j. turns_in (vec_items (w.turns-is j)) ++ turns_due first n (c.next-phase.ensures j) (blocks_of (w.waiting-is j).now)) ∙
          elim w.else-waiting-lt1.branch [
            | else-waiting-lt1-via-then-waiting-lt1 w' ↦ on_empty first k waiting 0 n was (turns_in (vec_items w.push-else-waiting-lt1.new.self)) (all c) (so_far c) (grind arith) here
            | else-waiting-lt1-via-in-len1-up+else-is_due w' ↦
                on_waiting first k waiting 0 n was (turns_in (vec_items w.push-else-waiting-lt1.new.self)) (all c) (so_far c) w'.block-item.result w'.block-item.is (omega arith) (sym w'.is_due.ensures ∙ w'.if-is_due.false) here
          ]
    ]

pub returns : goal.returns
returns c = turns_end c.args.first c.loop.phase (c.args.count - c.loop.counter) (blocks_of c.loop.waiting.now) _ _ (omega arith) c.loop.invariant
