-- Where a word stands among names with one more. Assumes nothing.
use Rattle.std.proofs.Common.{◌≡◌, ℕ, ◌+◌, Bool, true, false, cond, List, [], ◌∷◌, ◌++◌, length, Some, None, Option, is_some, refl, sym, ap, ◌∙◌, arith}
use Rattle.std.specs.Str.{bytes_eq}
use Rattle.std.proofs.lemmas.Slice.Eq.{bytes_eq-Decides}
use Rattle.text.specs.Words.{place, place_from}

pub place_none : (word : List ℕ) → place [] word ≡ None
unfolding place_from
place_none word = refl

place_from_push : (i : ℕ) (names : List (List ℕ)) (name word : List ℕ) → place_from i (names ++ name ∷ []) word ≡ cond (is_some (place_from i names word)) (place_from i names word) (cond (bytes_eq name word) (Some (i + length names)) None)
unfolding place_from
place_from_push i [] name word = ap (λ k. cond (bytes_eq name word) (Some k) None) (omega arith)
place_from_push i (n ∷ ns) name word = go (bytes_eq n word) (place_from_push (i + 1) ns name word)
  where
    known : Option ℕ
    known = place_from (i + 1) ns word

    go : (b : Bool) → place_from (i + 1) (ns ++ name ∷ []) word ≡ cond (is_some known) known (cond (bytes_eq name word) (Some (i + 1 + length ns)) None) →
        cond b (Some i) (place_from (i + 1) (ns ++ name ∷ []) word) ≡ cond (is_some (cond b (Some i) known)) (cond b (Some i) known) (cond (bytes_eq name word) (Some (i + length (n ∷ ns))) None)
    go true ih = refl
    go false ih = ih ∙ ap (λ k. cond (is_some known) known (cond (bytes_eq name word) (Some k) None)) (omega arith)

-- the place that was known, else that of the last
pub place_push : (names : List (List ℕ)) (name word : List ℕ) → place (names ++ name ∷ []) word ≡ cond (is_some (place names word)) (place names word) (cond (bytes_eq name word) (Some (length names)) None)
place_push names name word = place_from_push 0 names name word ∙ ap (λ k. cond (is_some (place names word)) (place names word) (cond (bytes_eq name word) (Some k) None)) (omega arith)

module _ (names : List (List ℕ)) (name word : List ℕ) where
  new_go : (n : ℕ) (same : Bool) (o : Option ℕ) → (same ≡ true → o ≡ None) → cond same (Some n) o ≡ cond (is_some o) o (cond same (Some n) None)
  new_go n true None h = refl
  new_go n true (Some r) h = let e = h refl in cc
  new_go n false None h = refl
  new_go n false (Some r) h = refl

  old_go : (n : ℕ) (same : Bool) (o : Option ℕ) → (same ≡ true → is_some o ≡ true) → o ≡ cond (is_some o) o (cond same (Some n) None)
  old_go n true None h = let e = h refl in cc
  old_go n true (Some r) h = refl
  old_go n false None h = refl
  old_go n false (Some r) h = refl

  named : bytes_eq name word ≡ true → word ≡ name
  named same = sym ((bytes_eq-Decides name word).0 same)

  pub new_placed : is_some (place names name) ≡ false → cond (bytes_eq name word) (Some (length names)) (place names word) ≡ place (names ++ name ∷ []) word
  new_placed new = new_go (length names) (bytes_eq name word) (place names word) (λ same. ap (place names) (named same) ∙ none (place names name) new) ∙ sym (place_push names name word)
    where
      none : (o : Option ℕ) → is_some o ≡ false → o ≡ None
      none None e = refl
      none (Some r) e = cc

  pub old_placed : is_some (place names name) ≡ true → place names word ≡ place (names ++ name ∷ []) word
  old_placed old = old_go (length names) (bytes_eq name word) (place names word) (λ same. ap (λ w. is_some (place names w)) (named same) ∙ old) ∙ sym (place_push names name word)
