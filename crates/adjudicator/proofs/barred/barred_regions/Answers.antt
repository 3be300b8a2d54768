use Rattle.std.proofs.Common.{◌≡◌, ◌&&◌, ◌||◌, eqb, ltb, length, vec_items, sym, ap, ◌∙◌, arith}
use Rattle.geography.specs.RegionSet.{has}
use Rattle.geography.proofs.Bitwise.{has_none}
use Rattle.adjudicator.proofs.Bounds.{those_in, one_barred, one_free, none_below}
use Rattle.adjudicator.proofs.barred.barred_regions.Goals as goal
use Rattle.adjudicator.proofs.barred.barred_regions.Goals.{then-contains, else-contains}

pub loop-r-init : goal.loop-r-init
loop-r-init c = λ q. has_none q ∙ none_below q (has c.args.p.now.barred q)

pub loop-r-preserved : goal.loop-r-preserved
loop-r-preserved c = λ q.
    let r = c.loop-r.r in
    let here = has c.args.p.now.barred in
    elim c.if-contains.branch [
      | then-contains w ↦
          ap (λ s. has s q) w.barred-is ∙ w.insert.ensures q ∙ ap (λ b. eqb q r || b) (c.loop-r.invariant q) ∙
          one_barred q r (here q) (λ e. ap here e ∙ sym c.contains.ensures ∙ w.if-contains.true)
      | else-contains w ↦
          ap (λ s. has s q) w.barred-is ∙ c.loop-r.invariant q ∙ one_free q r (here q) (λ e. ap here e ∙ sym c.contains.ensures ∙ w.if-contains.false)
    ]

pub returns : goal.returns
returns c = λ q.
    let here = has c.args.p.now.barred in
    let n = length (vec_items c.args.p.now.atlas.regions) in
    let e : c.loop-r.r ≡ n = omega (arith, c.args.p.now.atlas.regions.ok.0) in
    c.loop-r.invariant q ∙ ap (λ k. ltb q k && here q) e ∙ those_in n here q
