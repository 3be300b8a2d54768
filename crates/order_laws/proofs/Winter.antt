-- Units and texts in another order: the units after a winter are the same, in another order.
use Rattle.std.proofs.Common.{◌≡◌, ℕ, zero, suc, ◌-◌, Bool, true, false, cond, not, ◌&&◌, eqb, ltb, List, [], ◌∷◌, ◌++◌, length, get_or, take, Some, None, Option, refl, ap, ◌∙◌, subst}
use Rattle.values.specs.Fold.{each, those, is_in}
use Rattle.values.specs.Shuffle.{Shuffled}
use Rattle.values.proofs.Shuffled.{shuffle_eq, append_both, any_shuffle, number_shuffle, select_both}
use Rattle.board.specs.Board.{Board, can_stand, region_at}
use Rattle.board.specs.declared.unit.Unit.{Unit}
use Rattle.game.specs.declared.text.Written.{Written}
use Rattle.game.specs.Texts.{text_for}
use Rattle.game.specs.Retreats.{is_just}
use Rattle.game.specs.Winter.{of_power, units_of, centres_of, has_unit, is_disband, struck, disband_order, disbanded, build_in, may_build, build_order, built, winter_of, winters}
use Rattle.order_laws.specs.Edges.{SameBoard}
use Rattle.order_laws.proofs.Deciding.{bare}
use Rattle.order_laws.proofs.AfterMoves.{text_same}

module _ (m n : Board) (b : SameBoard m n) (owners : List (Option ℕ)) {ws vs : List Written} (w : Shuffled Written ws vs) where
  module _ (p : ℕ) {us qs : List Unit} (s : Shuffled Unit us qs) where
    has_same : (r : ℕ) → has_unit p us r ≡ has_unit p qs r
    has_same r = any_shuffle (λ u. of_power p u && eqb r u.region) s

    struck_same : (r : ℕ) → struck p ws r ≡ struck p vs r
    struck_same r = ap is_disband (text_same p r w)

    disband_order_same : disband_order m p ws us ≡ disband_order n p vs qs
    disband_order_same =
        λ i. those (length (b.regions i)) (λ r. has_same r i && struck_same r i) ++ those (length (b.regions i)) (λ r. has_same r i && not (struck_same r i))

    disbanded_same : (k : ℕ) → Shuffled Unit (disbanded m p ws k us) (disbanded n p vs k qs)
    disbanded_same k =
        select_both (λ u. not (of_power p u && is_in u.region (take k (disband_order m p ws us)))) (λ u. not (of_power p u && is_in u.region (take k (disband_order n p vs qs))))
        (λ u i. not (of_power p u && is_in u.region (take k (disband_order_same i)))) s

    may_build_same : (r : ℕ) (f : Option Bool) → may_build m p owners us r f ≡ may_build n p owners qs r f
    may_build_same r None = refl
    may_build_same r (Some fleet) =
        λ i. cond (can_stand (bare (b.regions i)) fleet r && (is_just p (region_at (bare (b.regions i)) r).home && (is_just p (get_or owners r None) && not (any_shuffle (λ u. eqb r u.region) s i)))) (record { power = p; region = r; fleet = fleet } ∷ []) []

    build_order_same : build_order m p owners ws us ≡ build_order n p owners vs qs
    build_order_same =
        let q : (r : ℕ) → may_build m p owners us r (build_in (text_for p r ws)) ≡ may_build n p owners qs r (build_in (text_for p r vs)) =
        λ r. may_build_same r (build_in (text_for p r ws)) ∙ ap (λ t. may_build n p owners qs r (build_in t)) (text_same p r w) in
        λ i. each (λ r. q r i) (those (length (b.regions i)) (λ r. true))

    winter_of_same : Shuffled Unit (winter_of m owners ws p us) (winter_of n owners vs p qs)
    winter_of_same =
        subst (λ k. Shuffled Unit (winter_of m owners ws p us) (cond (ltb (centres_of p owners) k) (disbanded n p vs (k - centres_of p owners) qs) (built n p owners vs (centres_of p owners - k) qs)))
        (number_shuffle (of_power p) s) (go (ltb (centres_of p owners) (units_of p us)))
      where
        go : (c : Bool) → Shuffled Unit (cond c (disbanded m p ws (units_of p us - centres_of p owners) us) (built m p owners ws (centres_of p owners - units_of p us) us))
            (cond c (disbanded n p vs (units_of p us - centres_of p owners) qs) (built n p owners vs (centres_of p owners - units_of p us) qs))
        go true = disbanded_same (units_of p us - centres_of p owners)
        go false = append_both s (shuffle_eq (ap (take (centres_of p owners - units_of p us)) build_order_same))

  pub winters_same : (p : ℕ) {us qs : List Unit} → Shuffled Unit us qs → Shuffled Unit (winters m owners ws p us) (winters n owners vs p qs)
  unfolding winters
  winters_same zero s = s
  winters_same (suc p) s = winter_of_same p (winters_same p s)
