use Rattle.std.proofs.Common.{◌≡◌, not, ◌&&◌, List, IfOk, vec_items, sym, ◌∙◌, subst, rules, tests}
use Rattle.std.proofs.lemmas.Iterator.{items_from_collect, YieldsList-from_slice}
use Rattle.std.proofs.lemmas.Iterator.Consumers.{YieldsList-at, YieldsList-from_copied, YieldsList-from_filter}
use Rattle.values.proofs.Chains.{select_is}
use Rattle.geography.specs.RegionSet.{has}
use Rattle.board.specs.declared.unit.Unit.{Unit}
use Rattle.board.specs.Atlas.{board_of}
use Rattle.game.specs.Winter.{of_power}
use Rattle.winter.proofs.Wintertime.{disbanded_is}
use Rattle.winter.proofs.adjustment.Adjustment.disband.Goals as goal

pub returns : goal.returns
returns c =
    let s = c.args.self.now in
    let us = s.units.now in
    let gone = c.goers-gone.result in
    let stays = λ (u : Unit). not (of_power s.power u && has gone u.region) in
    let left = sym (select_is stays us) ∙ disbanded_is (board_of s.atlas.now) s.power c.args.most (vec_items s.texts.now.list) us gone c.goers-gone.ensures in
    subst (λ (l : List Unit). IfOk c.collect.result (λ v. vec_items v ≡ l)) left
    (items_from_collect _ c.collect.ensures.ran
    (YieldsList-from_copied
    (YieldsList-at c.copied.ensures.source (YieldsList-from_filter _ stays (YieldsList-from_slice us cc) c.filter.ensures.closure (λ x b q k. search (rules, tests))))))
