use Rattle.std.proofs.Common.{rules, [], ◌∷◌, map, length, vec_items, refl, ap, ◌∙◌, append_assoc}
use Rattle.values.specs.Fold.{those}
use Rattle.geography.specs.RegionSet.{has}
use Rattle.game.specs.Number.{phase_number}
use Rattle.answers.specs.Words.{one_more, unit_words, out_words, in_order}
use Rattle.answers.proofs.InOrder.{put}
use Rattle.answers.proofs.games.game_words.Goals as goal

pub returns : goal.returns
returns c =
    let p = c.args.p.now in
    let n = c.len-n.ensures ∙ p.atlas.regions.ok.0 in
    let count = put _ _ [] _ (length (vec_items p.units) ∷ []) c.in_ok-push.ensures.items c.new-out.ensures.items (ap (λ k. k ∷ []) (c.len.ensures ∙ p.units.ok.0)) in
    let units = put _ _ _ _ (in_order unit_words (λ u. u) (length (vec_items p.atlas.regions)) (vec_items p.units)) c.in_ok-push_in_order.ensures count (rw (n, c.as_slice.ensures.value) refl) in
    let owners = put _ _ _ _ (map one_more (vec_items p.owners)) c.in_ok-push_owners.ensures units (ap (map one_more) c.as_slice-2.ensures.value) in
    let phase = put _ _ _ _ (phase_number p.phase ∷ []) c.in_ok-push-2.ensures.items owners (search rules) in
    let waiting = put _ _ _ _ (length (vec_items p.dislodged) ∷ []) c.in_ok-push-3.ensures.items phase (ap (λ k. k ∷ []) (c.len-2.ensures ∙ p.dislodged.ok.0)) in
    let dislodged = put _ _ _ _ (in_order out_words (λ d. d.unit) (length (vec_items p.atlas.regions)) (vec_items p.dislodged)) c.in_ok-push_in_order-2.ensures waiting (rw (n, c.as_slice-3.ensures.value) refl) in
    put _ _ _ _ (length (those (length (vec_items p.atlas.regions)) (has p.barred)) ∷ those (length (vec_items p.atlas.regions)) (has p.barred)) c.in_ok-push_regions.ensures dislodged (rw n refl) ∙
    simp append_assoc
