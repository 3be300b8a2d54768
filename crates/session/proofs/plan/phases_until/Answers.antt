use Rattle.std.proofs.Common.{◌≡◌, ◌+◌, drop, sym, ap, ◌∙◌, arith, rules}
use Rattle.text.specs.OrdersFile.{texts_of}
use Rattle.session.specs.Session.{distance, next_number, block_phase, phases_until}
use Rattle.session.specs.Tables.{blocks_of}
use Rattle.session.proofs.Due.{phases_more, phases-end}
use Rattle.session.proofs.plan.phases_until.Goals as goal

pub loop-block-preserved : goal.loop-block-preserved
loop-block-preserved c =
    let first = c.args.first in
    let k = c.loop-block.phase in
    let rest = blocks_of (drop (c.loop-block.block-index + 1) c.args.blocks.now) in
    let here : block_phase first (texts_of c.block-item.result) ≡ c.unwrap_or-n.result = sym c.unwrap_or-n.ensures in
    let more =
    phases_more first k c.args.blocks.now c.loop-block.block-index c.block-item.result c.loop-block-test.true ∙
    ap (λ b. distance k (block_phase first (texts_of b)) + 1 + phases_until first (next_number (block_phase first (texts_of b))) rest) (sym c.block-item.is) ∙
    ap (λ n. distance k n + 1 + phases_until first (next_number n) rest) here ∙
    ap (λ n. distance k c.unwrap_or-n.result + 1 + phases_until first n rest) (sym c.next-phase.ensures) in
    let sum : c.in_ok-count.count ≡ c.loop-block.count + c.phases_to.result = search rules in
    let step = c.phases_to.ensures in
    let so_far = c.loop-block.invariant in
    omega arith

pub returns : goal.returns
returns c =
    let none = phases-end c.args.first c.loop-block.phase c.args.blocks.now c.loop-block.block-index (omega arith) in
    let so_far = c.loop-block.invariant in
    omega arith
