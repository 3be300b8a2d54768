use Rattle.std.proofs.Common.{◌≡◌, ◌<◌, length, vec_len, vec_items, map, ap, ◌∙◌, arith, rules}
use Rattle.std.proofs.lemmas.List.{get_or_default, length-map}
use Rattle.std.proofs.lemmas.Iterator.{YieldsList-from_slice, YieldsList-from_map, YieldsList-from_any_map, items_from_collect, length_from_collect}
use Rattle.std.proofs.lemmas.Iterator.Adapters.{serves_from_places}
use Rattle.board.specs.Atlas.{board_of}
use Rattle.game.specs.declared.phase.Dislodged.{Dislodged}
use Rattle.game.specs.Retreats.{retreat_of}
use Rattle.retreats.specs.Retreating.{Closed}
use Rattle.retreats.proofs.Elements.{if_ok_each}
use Rattle.retreats.proofs.Leaving.{no_out, out_power}
use Rattle.retreats.proofs.pending.Pending.goals.Goals as goal

pub collect-requires-clause-can : goal.collect-requires-clause-can
collect-requires-clause-can c =
    let s = c.args.self.now in
    let ds = s.dislodged.now in (
      tt,
      serves_from_places (YieldsList-from_slice ds (cc)) (λ x q k. search rules) (λ x k h e.
          let p = out_power (board_of s.atlas.now) ds k s.units_stand h in
          let there = e ∙ get_or_default ds k x.now no_out h in
          let low : x.now.unit.power < 7 = omega (arith, p, ap (λ (d : Dislodged). d.unit.power) there) in
          search rules),
    )

pub returns : goal.returns
returns c =
    let s = c.args.self.now in
    let m = board_of s.atlas.now in
    let ws = vec_items s.texts.now.list in
    let ds = s.dislodged.now in
    if_ok_each c.collect.result (λ v. vec_len v ≡ length ds) (Closed s.closed) (λ g v. vec_items v ≡ map (retreat_of m g ws) ds)
    (length_from_collect c.collect.result (length ds) c.collect.ensures.ran (YieldsList-from_any_map _ (YieldsList-from_slice ds (cc))) (length-map ds (λ d. tt {0})))
    (λ g closed. items_from_collect c.collect.result c.collect.ensures.ran (YieldsList-from_map _ (retreat_of m g ws) (YieldsList-from_slice ds (cc)) c.map.ensures.closure (λ x r q k. let e : r ≡ retreat_of m g ws x.now = search (rules, k) in (search rules, e))))
