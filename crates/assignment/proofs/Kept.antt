-- What changes no unit and no order keeps the tables of a lookup. Assumes nothing.
use Rattle.std.proofs.Common.{◌≡◌, ℕ, zero, suc, ◌+◌, ◌<◌, ◌≤◌, cond, ◌&&◌, ◌==◌, List, [], ◌∷◌, ◌++◌, map, length, get_or, vec_items, Some, Option, sym, refl, ap, ◌∙◌, subst}
use Rattle.board.specs.Order.{aim}
use Rattle.assignment.specs.declared.resolution.Resolution.{Resolution}
use Rattle.assignment.specs.declared.lookup.Lookup.{Lookup}
use Rattle.assignment.specs.Assignment.{nobody}
use Rattle.assignment.specs.Places.{place_from, acts, aimed_from, Placed, Aimed, Inside}
use Rattle.assignment.specs.Lookup.{Indexed}

module _ (f : Resolution → Resolution) (unit : (x : Resolution) → (f x).unit ≡ x.unit) (order : (x : Resolution) → (f x).order ≡ x.order) where
  pub length_kept : (xs : List Resolution) → length (map f xs) ≡ length xs
  length_kept [] = refl
  length_kept (x ∷ xs) = ap suc (length_kept xs)

  unit_at : (xs : List Resolution) (k : ℕ) → (get_or (map f xs) k nobody).unit ≡ (get_or xs k nobody).unit
  unit_at [] k = refl
  unit_at (x ∷ xs) zero = unit x
  unit_at (x ∷ xs) (suc k) = unit_at xs k

  place_kept : (i r : ℕ) (xs : List Resolution) → place_from i r (map f xs) ≡ place_from i r xs
  place_kept i r [] = refl
  place_kept i r (x ∷ xs) = λ j. cond (r == (unit x j).region) (Some i) (place_kept (i + 1) r xs j)

  aimed_kept : (i r : ℕ) (xs : List Resolution) → aimed_from i r (map f xs) ≡ aimed_from i r xs
  unfolding aimed_from
  aimed_kept i r [] = refl
  aimed_kept i r (x ∷ xs) = λ j. aimed_kept (i + 1) r xs j ++ cond (acts (order x j) && r == aim (order x j)) (i ∷ []) []

  pub placed_kept : (table : List (Option ℕ)) (xs : List Resolution) → Placed table xs → Placed table (map f xs)
  unfolding Placed
  placed_kept table xs h = λ r l. h r l ∙ sym (place_kept 0 r xs)

  pub aims_kept : (table : List (List ℕ)) (xs : List Resolution) → Aimed table xs → Aimed table (map f xs)
  unfolding Aimed
  aims_kept table xs h = λ r l. h r l ∙ sym (aimed_kept 0 r xs)

  pub inside_kept : (xs : List Resolution) → Inside xs → Inside (map f xs)
  unfolding Inside
  inside_kept xs h = λ k. subst (λ u. u.region < 128) (sym (unit_at xs k)) (h k)

  pub indexed_kept : (l : Lookup) (xs : List Resolution) → Indexed l xs → Indexed l (map f xs)
  indexed_kept l xs h =
      record {
        few = subst (λ n. n ≤ 128) (sym (length_kept xs)) h.few;
        placed = placed_kept (vec_items l.place) xs h.placed;
        aimed = aims_kept (map vec_items (vec_items l.aimed)) xs h.aimed;
      }
