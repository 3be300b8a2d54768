-- A table by region, filled from the back of a list: its start, one element more in front, and a read. Assumes nothing.
use Rattle.std.proofs.Common.{◌≡◌, ℕ, ◌<◌, List, [], ◌∷◌, length, get_or, set, replicate, sym, ap, ◌∙◌, ⊎_elim}
use Rattle.std.proofs.lemmas.List.{get_or-set_same, get_or-set_other, get_or-replicate}
use Rattle.std.proofs.lemmas.Bool.{cases_eq}
use Rattle.tables.specs.ByRegion.{ByRegion}

module _ {X B : Type 0} (none : B) (at : ℕ → List X → B) where
  pub region_at : (table : List B) (xs : List X) (r : ℕ) → ByRegion none at table xs → r < 256 → get_or table r none ≡ at r xs
  unfolding ByRegion
  region_at table xs r h l = h r l

  pub region_none : (table : List B) → ((r : ℕ) → at r [] ≡ none) → table ≡ replicate 256 none → ByRegion none at table []
  unfolding ByRegion
  region_none table nothing blank r l = ap (λ t. get_or t r none) blank ∙ get_or-replicate 256 r none none l ∙ sym (nothing r)

  -- an element in front that changes nothing
  pub region_same : (table : List B) (xs : List X) (x : X) → ((r : ℕ) → at r (x ∷ xs) ≡ at r xs) → ByRegion none at table xs → ByRegion none at table (x ∷ xs)
  unfolding ByRegion
  region_same table xs x same kept r l = kept r l ∙ sym (same r)

  -- one that changes the entry at k
  pub region_put : (table : List B) (xs : List X) (x : X) (k : ℕ) (v : B) → k < length table → at k (x ∷ xs) ≡ v → ((r : ℕ) → (r ≡ k → ⊥) → at r (x ∷ xs) ≡ at r xs) → ByRegion none at table xs → ByRegion none at (set table k v) (x ∷ xs)
  unfolding ByRegion
  region_put table xs x k v low here there kept r l = ⊎_elim same other (cases_eq r k)
    where
      same : r ≡ k → get_or (set table k v) r none ≡ at r (x ∷ xs)
      same e = ap (λ n. get_or (set table k v) n none) e ∙ get_or-set_same table k v none low ∙ sym (ap (λ n. at n (x ∷ xs)) e ∙ here)

      other : (r ≡ k → ⊥) → get_or (set table k v) r none ≡ at r (x ∷ xs)
      other apart = get_or-set_other table k r v none apart ∙ kept r l ∙ sym (there r apart)
