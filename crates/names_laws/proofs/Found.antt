-- Where a name stands after one name more. Assumes nothing.
use Rattle.std.proofs.Common.{◌≡◌, ℕ, ◌+◌, Bool, true, false, cond, List, [], ◌∷◌, ◌++◌, length, Some, None, refl, ap, ◌∙◌, inl, inr, arith}
use Rattle.std.specs.Prelude.{nat_lt, slice_index_or}
use Rattle.std.specs.Str.{bytes_eq}
use Rattle.std.proofs.lemmas.Bool.{cases_Bool, ltb-true, ltb-false}
use Rattle.std.proofs.lemmas.List.{get_or_append_left, length-append}
use Rattle.std.proofs.Math.Seq.{get_or-append_seam}
use Rattle.std.proofs.lemmas.Slice.Eq.{bytes_eq-Decides}
use Rattle.text.specs.Words.{place, place_from}

-- one that was found is found there still
pub found_before : (i : ℕ) (names : List (List ℕ)) (word name : List ℕ) (r : ℕ) → place_from i names name ≡ Some r → place_from i (names ++ word ∷ []) name ≡ Some r
unfolding place_from
found_before i [] word name r h = cc
found_before i (n ∷ ns) word name r h = go (bytes_eq n name) h (found_before (i + 1) ns word name r)
  where
    go : (b : Bool) → cond b (Some i) (place_from (i + 1) ns name) ≡ Some r → (place_from (i + 1) ns name ≡ Some r → place_from (i + 1) (ns ++ word ∷ []) name ≡ Some r) →
        cond b (Some i) (place_from (i + 1) (ns ++ word ∷ []) name) ≡ Some r
    go true e further = e
    go false e further = further e

-- one that wasn't is found behind all others
pub found_last : (i : ℕ) (names : List (List ℕ)) (word : List ℕ) → place_from i names word ≡ None → place_from i (names ++ word ∷ []) word ≡ Some (i + length names)
unfolding place_from
found_last i [] word h = ap (λ b. cond b (Some i) None) ((bytes_eq-Decides word word).1 refl) ∙ ap Some (omega arith)
found_last i (n ∷ ns) word h = go (bytes_eq n word) h (found_last (i + 1) ns word)
  where
    go : (b : Bool) → cond b (Some i) (place_from (i + 1) ns word) ≡ None → (place_from (i + 1) ns word ≡ None → place_from (i + 1) (ns ++ word ∷ []) word ≡ Some (i + 1 + length ns)) →
        cond b (Some i) (place_from (i + 1) (ns ++ word ∷ []) word) ≡ Some (i + length (n ∷ ns))
    go true e further = cc
    go false e further = further e ∙ ap Some (omega arith)

-- each stands for its own region, with one name more that none had
pub found_more : (names : List (List ℕ)) (word : List ℕ) → place names word ≡ None → ((r : ℕ) → nat_lt r (length names) ≡ true → place names (slice_index_or names r []) ≡ Some r) →
    (r : ℕ) → nat_lt r (length (names ++ word ∷ [])) ≡ true → place (names ++ word ∷ []) (slice_index_or (names ++ word ∷ []) r []) ≡ Some r
found_more names word new found r h =
    let long = length-append names (word ∷ []) in
    let below = ltb-true r (length (names ++ word ∷ [])) h in
    elim (cases_Bool (nat_lt r (length names))) [
      | inl e ↦
          let within = ltb-true r (length names) e in
          ap (place (names ++ word ∷ [])) (get_or_append_left names (word ∷ []) [] r within) ∙ found_before 0 names word (slice_index_or names r []) r (found r e)
      | inr e ↦
          let past = ltb-false r (length names) e in
          let last : r ≡ length names = omega arith in
          ap (λ k. place (names ++ word ∷ []) (slice_index_or (names ++ word ∷ []) k [])) last ∙ ap (place (names ++ word ∷ [])) (get_or-append_seam names word [] []) ∙ found_last 0 names word new ∙ ap Some (omega arith)
    ]
