use Rattle.std.proofs.Common.{◌+◌, ◌-◌, length, arith}
use Rattle.std.proofs.lemmas.Bool.{lt-ltb, le-ltb}
use Rattle.std.proofs.lemmas.Iterator.Adapters.{YieldsList-from_rev_slice}
use Rattle.values.proofs.Backwards.{back_turn, back_end, back_none, back_more, back_all}
use Rattle.geography.specs.RegionSet.{empty}
use Rattle.calls.proofs.Barred.{Held, held_none, held_more, held_bad}
use Rattle.calls.proofs.barred_words.read_barred.Goals as goal

pub loop-word-init : goal.loop-word-init
loop-word-init c = (tt, tt, back_none (λ ws. Held c.args.regions ws empty) c.args.words.now (held_none c.args.regions))

pub returns-then-word-regions : goal.returns-then-word-regions
returns-then-word-regions c =
    let ws = c.args.words.now in
    let t = back_turn ws (YieldsList-from_rev_slice ws (cc)) c.loop-word.yielded _ c.loop-word.yielded_by _ _ c.in-Some.word c.in-Some.is c.next.ensures.steps in
    held_bad c.args.regions (length ws - (length c.loop-word.yielded + 1)) c.in-Some.word.now ws _ t.rest (le-ltb c.in-Some.word.now c.args.regions (omega arith))

pub loop-word-preserved : goal.loop-word-preserved
loop-word-preserved c =
    let ws = c.args.words.now in
    let t = back_turn ws (YieldsList-from_rev_slice ws (cc)) c.loop-word.yielded _ c.loop-word.yielded_by _ _ c.in-Some.word c.in-Some.is c.next.ensures.steps in
    let low = lt-ltb c.in-Some.word.now c.args.regions (omega arith) in
    (tt, tt, back_more (λ vs. Held c.args.regions vs c.insert.new.self) ws c.loop-word.yielded c.in-Some.word c.in-Some.word.now t (held_more c.args.regions c.in-Some.word.now _ c.loop-word.barred c.insert.new.self c.loop-word.invariant.2 low c.insert.ensures))

pub returns : goal.returns
returns c =
    let ws = c.args.words.now in
    let end = back_end ws (YieldsList-from_rev_slice ws (cc)) c.loop-word.yielded _ c.loop-word.yielded_by _ _ c.in-None.is c.next.ensures.steps in
    let all = back_all (λ ws. Held c.args.regions ws c.loop-word.barred) ws c.loop-word.yielded end c.loop-word.invariant.2 in
    (all.low, all.holds)
