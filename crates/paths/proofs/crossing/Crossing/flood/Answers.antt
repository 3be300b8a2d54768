use Rattle.std.proofs.Common.{◌≡◌, ◌-◌, [], ◌∷◌, length, sym, ap, ◌∙◌, arith, rules}
use Rattle.std.proofs.lemmas.Bool.{eqb-true, and_parts}
use Rattle.values.specs.Fold.{any, is_in}
use Rattle.geography.proofs.Bitwise.{has_none, has_same}
use Rattle.board.specs.Atlas.{board_of}
use Rattle.paths.specs.Paths.{reached, flood}
use Rattle.paths.specs.Flood.{counts}
use Rattle.paths.proofs.Flooding.{flood_fixed, flood_more, flood_none}
use Rattle.paths.proofs.crossing.Crossing.flood.Goals as goal

pub loop-init : goal.loop-init
unfolding any
loop-init g c =
    let s = c.args.self.now in
    let xs = s.water.xs.now in (
      s.from ∷ [],
      λ q. let a = c.insert.ensures q in search (rules, has_none),
      let e : length xs - 0 ≡ length xs = omega arith in
          ap (λ n. flood n (board_of s.water.atlas.now) (counts (g.S.Staying.stays s.fleets) xs) s.from s.to xs (s.from ∷ [])) e,
    )

pub loop-preserved : goal.loop-preserved
loop-preserved g c =
    let s = c.args.self.now in (
      reached (board_of s.water.atlas.now) (counts (g.S.Staying.stays s.fleets) s.water.xs.now) s.from s.to c.loop.invariant.0 s.water.xs.now,
      c.grow-next.ensures _ c.loop.invariant.1,
      sym (flood_more _ _ _ _ _ _ _ _ c.loop-test.true) ∙ c.loop.invariant.2,
    )

pub returns-after-loop : goal.returns-after-loop
returns-after-loop g c = λ q. c.loop.invariant.1 q ∙ ap (is_in q) (sym (flood_none _ _ _ _ _ _ _ _ c.loop-test.false) ∙ c.loop.invariant.2)

pub returns-then-eq : goal.returns-then-eq
returns-then-eq g c = λ q.
    let s = c.args.self.now in
    let xs = s.water.xs.now in
    let inv = c.loop.invariant in
    let same = and_parts _ _ (sym c.if-eq.ensures) in
    inv.1 q ∙
    sym (flood_fixed (board_of s.water.atlas.now) (counts (g.S.Staying.stays s.fleets) xs) s.from s.to (length xs - c.loop.counter) xs inv.0 (λ p. sym (c.grow-next.ensures inv.0 inv.1 p) ∙ has_same c.grow-next.result c.loop.seen (eqb-true _ _ same.0) (eqb-true _ _ same.1) p ∙ inv.1 p) q) ∙
    ap (is_in q) inv.2
