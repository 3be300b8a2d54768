-- Units taken from the last to the first, with the set of regions that are taken. Assumes nothing.
use Rattle.std.proofs.Common.{◌≡◌, ℕ, zero, suc, Bool, true, false, not, ◌&&◌, ◌||◌, eqb, List, [], ◌∷◌, drop, sym, refl, ap, ◌∙◌, ⊎_elim}
use Rattle.std.proofs.lemmas.Bool.{not-true, and_parts, and_from, and_left, and_right, not_from_true, not_from_false, cases_Bool, both_ways}
use Rattle.values.specs.Fold.{all, any, is_in, distinct}
use Rattle.geography.specs.declared.region_set.RegionSet.{RegionSet}
use Rattle.geography.specs.RegionSet.{has, empty, Holds}
use Rattle.geography.proofs.Bitwise.{has_none}
use Rattle.board.specs.declared.unit.Unit.{Unit}
use Rattle.board.specs.Board.{Board, stands}
use Rattle.game.specs.Lawful.{places}
use Rattle.position.proofs.Elements.{all_drop}

-- they are apart and stand, and the set has their regions
pub record Placed (m : Board) (us : List Unit) (s : RegionSet) : Type 0 where
  pub apart : distinct (places us) ≡ true
  pub stand : all (stands m) us ≡ true
  pub taken : Holds s (places us)

pub placed_none : (m : Board) → Placed m [] empty
unfolding all any distinct
placed_none m = record { apart = refl; stand = refl; taken = has_none }

abbrev pub whole : Board → List Unit → Bool
whole m us = distinct (places us) && all (stands m) us

module _ (m : Board) (us : List Unit) (s : RegionSet) (u : Unit) (later : Placed m us s) where
  pub placed_fits : (t : RegionSet) → (stands m u && not (has s u.region)) ≡ true → ((q : ℕ) → has t q ≡ (eqb q u.region || has s q)) → Placed m (u ∷ us) t
  unfolding all any distinct
  placed_fits t fits new =
      let parts = and_parts (stands m u) (not (has s u.region)) fits in
      let free = not-true (has s u.region) parts.1 in
      record {
        apart = and_from (not (is_in u.region (places us))) (distinct (places us)) (not_from_false (is_in u.region (places us)) (sym (later.taken u.region) ∙ free)) later.apart;
        stand = and_from (stands m u) (all (stands m) us) parts.0 later.stand;
        taken = λ q. new q ∙ ap (λ b. eqb q u.region || b) (later.taken q);
      }

  pub ill_fits : (stands m u && not (has s u.region)) ≡ false → whole m (u ∷ us) ≡ false
  unfolding all distinct
  ill_fits bad = go (stands m u) refl (has s u.region) refl bad
    where
      go : (a : Bool) → stands m u ≡ a → (b : Bool) → has s u.region ≡ b → (a && not b) ≡ false → whole m (u ∷ us) ≡ false
      go false p b q e = and_right (distinct (places (u ∷ us))) (all (stands m) (u ∷ us)) (and_left (stands m u) (all (stands m) us) p)
      go true p true q e =
          and_left (distinct (places (u ∷ us))) (all (stands m) (u ∷ us))
          (and_left (not (is_in u.region (places us))) (distinct (places us)) (not_from_true (is_in u.region (places us)) (sym (later.taken u.region) ∙ q)))
      go true p false q e = cc

distinct-drop : (i : ℕ) (us : List Unit) → distinct (places us) ≡ true → distinct (places (drop i us)) ≡ true
unfolding distinct
distinct-drop zero us h = h
distinct-drop (suc i) [] h = refl
distinct-drop (suc i) (u ∷ us) h = distinct-drop i us (and_parts (not (is_in u.region (places us))) (distinct (places us)) h).1

-- where the rest is ill placed, so is the whole
pub rest_ill : (m : Board) (us : List Unit) (i : ℕ) → whole m (drop i us) ≡ false → whole m us ≡ false
rest_ill m us i h = ⊎_elim well (λ e. e) (cases_Bool (whole m us))
  where
    well : whole m us ≡ true → whole m us ≡ false
    well e =
        let parts = and_parts (distinct (places us)) (all (stands m) us) e in
        absurd (both_ways (whole m (drop i us)) h (and_from (distinct (places (drop i us))) (all (stands m) (drop i us)) (distinct-drop i us parts.0) (all_drop (stands m) i us parts.1)))
