use Rattle.std.proofs.Common.{length, vec_items, set, ap, ◌∙◌, arith}
use Rattle.std.proofs.lemmas.List.{length-replicate}
use Rattle.std.proofs.lemmas.Iterator.Adapters.{YieldsList-from_rev_slice}
use Rattle.values.proofs.Backwards.{back_turn, back_end, back_none, back_more, back_all}
use Rattle.texts.specs.declared.texts.Slot.TheVariants.{Nothing}
use Rattle.texts.specs.Slots.{Kept, slot_of}
use Rattle.texts.proofs.Noting.{kept_none, kept_past, kept_more}
use Rattle.texts.proofs.texts.note.Goals as goal

pub loop-w-init : goal.loop-w-init
loop-w-init c =
    let slots = vec_items c.args.slots.now in
    let long = ap length c.requires.blank ∙ length-replicate 1792 Nothing in
    (omega (arith, c.args.slots.now.ok.0, long), back_none (λ ws. Kept ws slots) c.args.list.now (kept_none slots c.requires.blank))

pub loop-w-preserved-then-w-lt7 : goal.loop-w-preserved-then-w-lt7
loop-w-preserved-then-w-lt7 c =
    let ws = c.args.list.now in
    let t = back_turn ws (YieldsList-from_rev_slice ws (cc)) c.loop-w.yielded _ c.loop-w.yielded_by _ _ c.in-Some.w c.in-Some.is c.next.ensures.steps in
    let w = c.in-Some.w.now in (
      c.loop-w.invariant.0,
      back_more (λ ws. Kept ws (set (vec_items c.loop-w.slots) (slot_of w.power w.region) c.with.result)) ws c.loop-w.yielded c.in-Some.w w t
          (kept_more w _ (vec_items c.loop-w.slots) c.index.result.now c.with.result (omega (arith, c.loop-w.slots.ok.0)) c.if-w-lt7.true (omega arith) c.index.ensures c.with.ensures c.loop-w.invariant.1),
    )

pub loop-w-preserved : goal.loop-w-preserved
loop-w-preserved c =
    let ws = c.args.list.now in
    let t = back_turn ws (YieldsList-from_rev_slice ws (cc)) c.loop-w.yielded _ c.loop-w.yielded_by _ _ c.in-Some.w c.in-Some.is c.next.ensures.steps in
    (c.loop-w.invariant.0, back_more (λ ws. Kept ws (vec_items c.loop-w.slots)) ws c.loop-w.yielded c.in-Some.w c.in-Some.w.now t (kept_past c.in-Some.w.now _ (vec_items c.loop-w.slots) (omega arith) c.loop-w.invariant.1))

pub returns : goal.returns
returns c =
    let ws = c.args.list.now in
    let slots = vec_items c.loop-w.slots in
    record { long = c.loop-w.invariant.0; kept = back_all (λ ws. Kept ws slots) ws c.loop-w.yielded (back_end ws (YieldsList-from_rev_slice ws (cc)) c.loop-w.yielded _ c.loop-w.yielded_by _ _ c.in-None.is c.next.ensures.steps) c.loop-w.invariant.1 }
