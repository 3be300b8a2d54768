-- Who goes and who comes in a winter, as the code's sets and tables say it. Assumes nothing.
use Rattle.std.proofs.Common.{◌≡◌, ℕ, suc, ◌+◌, ◌-◌, ◌<◌, Bool, true, false, cond, not, ◌&&◌, ltb, List, ◌++◌, length, get_or, take, filter, slice_get, Some, None, Option, refl, ap, ◌∙◌, arith}
use Rattle.std.specs.List.{range_with_len}
use Rattle.std.specs.Option.{option_to_list}
use Rattle.std.proofs.lemmas.Bool.{and_parts, and_from, lt-ltb}
use Rattle.values.specs.Fold.{all, select, those, is_in}
use Rattle.geography.specs.declared.region_set.RegionSet.{RegionSet}
use Rattle.geography.specs.RegionSet.{has, Holds}
use Rattle.board.specs.Board.{Board, stands, can_stand, region_at}
use Rattle.board.specs.declared.unit.Unit.{Unit}
use Rattle.game.specs.declared.text.Written.{Written}
use Rattle.game.specs.Texts.{text_for}
use Rattle.game.specs.Winter.{of_power, units_of, centres_of, has_unit, struck, disband_order, disbanded, build_in, may_build, build_order, built, winter_of, winters}
use Rattle.game.specs.Retreats.{occupied, is_just}
use Rattle.winter.proofs.Choosing.{those_is, chosen_below}
use Rattle.retreats.proofs.Elements.{one_if}
use Rattle.tables.proofs.Folds.{all_append, all_take, all-select, all-each, all_if}

-- who goes, as the set of the power's regions says it
pub order_is : (m : Board) (p : ℕ) (ws : List Written) (us : List Unit) (held : RegionSet) → ((r : ℕ) → has held r ≡ has_unit p us r) →
    filter (λ r. has held r && struck p ws r) (range_with_len 0 (length m.regions)) ++ filter (λ r. has held r && not (struck p ws r)) (range_with_len 0 (length m.regions)) ≡ disband_order m p ws us
order_is m p ws us held h =
    let n = length m.regions in
    (λ i. those_is n (λ r. has held r && struck p ws r) i ++ those_is n (λ r. has held r && not (struck p ws r)) i) ∙ (λ i. those n (λ r. h r i && struck p ws r) ++ those n (λ r. h r i && not (struck p ws r)))

pub order_below : (m : Board) (p : ℕ) (ws : List Written) (us : List Unit) (most i d : ℕ) → i < length (take most (disband_order m p ws us)) → get_or (take most (disband_order m p ws us)) i d < length m.regions
order_below m p ws us most i d h = chosen_below (length m.regions) (λ r. has_unit p us r && struck p ws r) (λ r. has_unit p us r && not (struck p ws r)) most i d h

pub disbanded_is : (m : Board) (p k : ℕ) (ws : List Written) (us : List Unit) (gone : RegionSet) → Holds gone (take k (disband_order m p ws us)) →
    select (λ u. not (of_power p u && has gone u.region)) us ≡ disbanded m p ws k us
disbanded_is m p k ws us gone h = λ i. select (λ u. not (of_power p u && h u.region i)) us

pub one_at_most : (m : Board) (p : ℕ) (owners : List (Option ℕ)) (us : List Unit) (r : ℕ) (wanted : Option Bool) → option_to_list (slice_get (may_build m p owners us r wanted) 0) ≡ may_build m p owners us r wanted
one_at_most m p owners us r None = refl
one_at_most m p owners us r (Some fleet) =
    one_if (can_stand m fleet r && (is_just p (region_at m r).home && (is_just p (get_or owners r None) && not (occupied r us)))) (record { power = p; region = r; fleet = fleet })

-- ---- units stand before and after
build_stands : (m : Board) (p : ℕ) (owners : List (Option ℕ)) (us : List Unit) (r : ℕ) (wanted : Option Bool) → p < 7 → all (stands m) (may_build m p owners us r wanted) ≡ true
unfolding all
build_stands m p owners us r None low = refl
build_stands m p owners us r (Some fleet) low =
    let can = can_stand m fleet r in
    let free = is_just p (region_at m r).home && (is_just p (get_or owners r None) && not (occupied r us)) in
    all_if (stands m) (can && free) (record { power = p; region = r; fleet = fleet }) (λ e. and_from can (ltb p 7) (and_parts can free e).0 (lt-ltb p 7 low))

pub winter_stands : (m : Board) (owners : List (Option ℕ)) (ws : List Written) (p : ℕ) (us : List Unit) → p < 7 → all (stands m) us ≡ true → all (stands m) (winter_of m owners ws p us) ≡ true
winter_stands m owners ws p us low e = go (ltb (centres_of p owners) (units_of p us))
  where
    go : (b : Bool) → all (stands m) (cond b (disbanded m p ws (units_of p us - centres_of p owners) us) (built m p owners ws (centres_of p owners - units_of p us) us)) ≡ true
    go true = all-select (stands m) (λ u. not (of_power p u && is_in u.region (take (units_of p us - centres_of p owners) (disband_order m p ws us)))) us e
    go false =
        all_append (stands m) us (take (centres_of p owners - units_of p us) (build_order m p owners ws us)) e
        (all_take (stands m) (centres_of p owners - units_of p us) (build_order m p owners ws us)
        (all-each (stands m) (λ r. may_build m p owners us r (build_in (text_for p r ws))) (those (length m.regions) (λ r. true)) (λ r. build_stands m p owners us r (build_in (text_for p r ws)) low)))

pub winters_more : (m : Board) (owners : List (Option ℕ)) (ws : List Written) (p : ℕ) (us : List Unit) → winters m owners ws (p + 1) us ≡ winter_of m owners ws p (winters m owners ws p us)
unfolding winters
winters_more m owners ws p us = let e : p + 1 ≡ suc p = omega arith in ap (λ n. winters m owners ws n us) e

pub winters_none : (m : Board) (owners : List (Option ℕ)) (ws : List Written) (us : List Unit) → us ≡ winters m owners ws 0 us
unfolding winters
winters_none m owners ws us = refl
