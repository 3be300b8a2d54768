use Rattle.std.proofs.Common.{◌≡◌, ◌+◌, length, get_or, drop, sym, ap, ◌∙◌, refl, arith, rules}
use Rattle.std.proofs.lemmas.List.{at_drop_more}
use Rattle.std.proofs.lemmas.Fn.{says_at}
use Rattle.std.specs.List.{fold}
use Rattle.values.specs.Span.{sum, exactly, counted}
use Rattle.assignment.specs.Assignment.{nobody}
use Rattle.assignment.proofs.Aimed.{turn, fold_aimed, aimed_few}
use Rattle.strength.proofs.Counted.{counted_small}
use Rattle.strength.proofs.support.one_and_support.Goals as goal
use Rattle.strength.proofs.support.one_and_support.Goals.{then-counts, else-counts}

pub loop-i-init : goal.loop-i-init
loop-i-init g c =
    let xs = c.args.orders.list.now in
    record {
      sum = λ test k.
          ap (λ a. fold (turn test (λ y rest. sum (counted y.value) rest) xs) a c.aimed_at-i-items.result.now) c.exactly-acc.ensures ∙
          ap (fold (turn test (λ y rest. sum (counted y.value) rest) xs) (exactly 0)) c.aimed_at-i-items.ensures.places ∙
          fold_aimed test (λ y rest. sum (counted y.value) rest) (exactly 0) c.args.r k.aimed xs;
      ordered = search rules;
      small = search rules;
    }

pub sum-acc-requires : goal.sum-acc-requires
sum-acc-requires g c =
    let few = aimed_few c.args.r c.args.orders.list.now in
    let items = ap length c.aimed_at-i-items.ensures.places in
    let one = c.args.orders.indexed.few in
    search (rules, counted_small)

pub loop-i-preserved : goal.loop-i-preserved
loop-i-preserved g c =
    let xs = c.args.orders.list.now in
    let items = c.aimed_at-i-items.result.now in
    let n = c.loop-i.i-index in
    let i = get_or items n 0 in
    record {
      sum = λ test k.
          let says : c.counts.result ≡ test (get_or xs i nobody) = k.says _ _ (says_at g.F.Fn c.counts.ensures refl) in
          let next : c.if-counts.acc ≡ turn test (λ y rest. sum (counted y.value) rest) xs c.loop-i.acc i = elim c.if-counts.branch [ then-counts w ↦ search rules | else-counts w ↦ search rules ] in
          ap (λ a. fold (turn test (λ y rest. sum (counted y.value) rest) xs) a (drop (n + 1) items)) next ∙
          sym (at_drop_more (fold (turn test (λ y rest. sum (counted y.value) rest) xs) c.loop-i.acc) items n 0 (omega arith)) ∙
          c.loop-i.invariant.sum test k;
      ordered = search (rules, counted_small);
      small = search (rules, counted_small);
    }

pub sum-requires : goal.sum-requires
sum-requires g c =
    let few = aimed_few c.args.r c.args.orders.list.now in
    let items = ap length c.aimed_at-i-items.ensures.places in
    let one = c.args.orders.indexed.few in
    search rules
