use Rattle.std.proofs.Common.{◌≡◌, ◌+◌, ◌-◌, length, vec_items, vec_len, sym, ap, ◌∙◌, subst, arith, rules}
use Rattle.board.specs.Atlas.{board_of}
use Rattle.assignment.specs.Places.{Inside}
use Rattle.assignment.specs.Lookup.{Indexed}
use Rattle.deciding.specs.Rounds.{round, rounds}
use Rattle.deciding.proofs.Again.{rounds_fixed, rounds_more, rounds_none, indexed_round, inside_round}
use Rattle.deciding.proofs.rounds.decide_all.Goals as goal

pub loop-preserved : goal.loop-preserved
loop-preserved c =
    let m = board_of c.args.atlas.now in
    let xs = vec_items c.loop.xs in
    let n = vec_len c.args.xs.now + 1 in
    let list = c.known-known.ensures.orders ∙ c.new-orders.ensures ∙ c.as_slice.ensures.value in
    let here : vec_items c.swap.new.x ≡ round m xs = ap vec_items c.swap.ensures.x_after ∙ c.round_into-changed.ensures.items ∙ (λ i. round (board_of (c.known-known.ensures.atlas i)) (list i)) in (
      ap (rounds (n - (c.loop.counter + 1)) m) here ∙ sym (rounds_more n c.loop.counter m xs (omega arith)) ∙ c.loop.invariant.0,
      search rules,
      search rules,
      search rules,
      search rules,
      search rules,
      subst Inside (sym here) (inside_round m xs c.loop.invariant.6),
      subst (Indexed c.args.lookup.now) (sym here) (indexed_round m c.args.lookup.now xs c.loop.invariant.7),
    )

pub returns-then-not-changed : goal.returns-then-not-changed
returns-then-not-changed c =
    let m = board_of c.args.atlas.now in
    let xs = vec_items c.loop.xs in
    let start = vec_items c.args.xs.now in
    let list = c.known-known.ensures.orders ∙ c.new-orders.ensures ∙ c.as_slice.ensures.value in
    let went : vec_items c.round_into-changed.new.out ≡ round m xs = c.round_into-changed.ensures.items ∙ (λ i. round (board_of (c.known-known.ensures.atlas i)) (list i)) in
    let still = c.round_into-changed.ensures.still c.if-not-changed.true ∙ list in
    let fixed = rounds_fixed (vec_len c.args.xs.now + 1 - c.loop.counter) m xs (sym went ∙ still) in
    let here : vec_items c.swap.new.x ≡ xs = ap vec_items c.swap.ensures.x_after ∙ still in
    let long : vec_len c.args.xs.now ≡ length start = omega (arith, c.args.xs.now.ok.0) in
    record {
      items = here ∙ sym fixed ∙ c.loop.invariant.0 ∙ ap (λ n. rounds (n + 1) m start) long;
      indexed = subst (Indexed c.args.lookup.now) (sym here) c.loop.invariant.7;
      inside = subst Inside (sym here) c.loop.invariant.6;
      room = search rules;
      tables = search rules;
    }

-- the last of the rounds
pub returns-else-not-changed : goal.returns-else-not-changed
returns-else-not-changed c =
    let m = board_of c.args.atlas.now in
    let xs = vec_items c.loop.xs in
    let n = vec_len c.args.xs.now + 1 in
    let start = vec_items c.args.xs.now in
    let list = c.known-known.ensures.orders ∙ c.new-orders.ensures ∙ c.as_slice.ensures.value in
    let here : vec_items c.swap.new.x ≡ round m xs = ap vec_items c.swap.ensures.x_after ∙ c.round_into-changed.ensures.items ∙ (λ i. round (board_of (c.known-known.ensures.atlas i)) (list i)) in
    let long : vec_len c.args.xs.now ≡ length start = omega (arith, c.args.xs.now.ok.0) in
    record {
      items = sym (rounds_none n (c.loop.counter + 1) m (vec_items c.swap.new.x) (omega arith)) ∙
          ap (rounds (n - (c.loop.counter + 1)) m) here ∙
          sym (rounds_more n c.loop.counter m xs (omega arith)) ∙
          c.loop.invariant.0 ∙
          ap (λ k. rounds (k + 1) m start) long;
      indexed = subst (Indexed c.args.lookup.now) (sym here) (indexed_round m c.args.lookup.now xs c.loop.invariant.7);
      inside = subst Inside (sym here) (inside_round m xs c.loop.invariant.6);
      room = search rules;
      tables = search rules;
    }
