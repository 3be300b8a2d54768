-- What std's chains find, in the words of the forms. Assumes nothing.
use Rattle.std.proofs.Common.{◌≡◌, ℕ, suc, ◌+◌, ◌≤◌, Bool, true, false, cond, ltb, List, [], ◌∷◌, length, Some, None, refl, sym, ap, ◌∙◌, inl, inr, arith}
use Rattle.std.specs.Prelude.{◌==◌}
use Rattle.std.specs.List.{position, position_from, position_or_len}
use Rattle.std.specs.Option.{unwrap_or}
use Rattle.std.proofs.lemmas.Bool.{cases_Bool, ltb-false}
use Rattle.std.proofs.lemmas.List.Sums.{prefix_len-le-length}
use Rattle.std.proofs.lemmas.List.Recursion.{is_position_or_len}
use Rattle.std.specs.Str.{bytes_eq}
use Rattle.std.proofs.lemmas.Iterator.Adapters.{position_from-zero}
use Rattle.text.specs.Lines.{part_length}
use Rattle.text.specs.Words.{place, place_from}

cond_or : {A : Type 0} (test : Bool) (x y : A) → unwrap_or (cond test (Some x) None) y ≡ cond test x y
cond_or true x y = refl
cond_or false x y = refl

-- the first place that passes, or the length
position_or : {A : Type 0} (test : A → Bool) (xs : List A) → unwrap_or (position test xs) (length xs) ≡ position_or_len test xs
position_or test xs =
    cond_or (ltb (position_or_len test xs) (length xs)) (position_or_len test xs) (length xs) ∙ elim (cases_Bool (ltb (position_or_len test xs) (length xs))) [
      | inl e ↦ ap (λ b. cond b (position_or_len test xs) (length xs)) e
      | inr e ↦ ap (λ b. cond b (position_or_len test xs) (length xs)) e ∙ (let past : length xs ≤ position_or_len test xs = ltb-false (position_or_len test xs) (length xs) e in let within : position_or_len test xs ≤ length xs = prefix_len-le-length _ xs in omega arith)
    ]

pub part_length_is : (sep : ℕ) (bytes : List ℕ) → part_length sep bytes ≡ unwrap_or (position (λ b. b == sep) bytes) (length bytes)
unfolding part_length
part_length_is sep bytes =
    is_position_or_len (part_length sep) (λ b. b == sep) refl (λ b bs. ap (cond (b == sep) 0) (let e : suc (part_length sep bs) ≡ 1 + part_length sep bs = omega arith in e)) bytes ∙
    sym (position_or (λ b. b == sep) bytes)

place_from_is : (i : ℕ) (names : List (List ℕ)) (word : List ℕ) → place_from i names word ≡ position_from (λ name. bytes_eq name word) i names
unfolding place_from
place_from_is i [] word = refl
place_from_is i (name ∷ names) word = ap (λ o. cond (bytes_eq name word) (Some i) o) (place_from_is (i + 1) names word)

pub place_is : (names : List (List ℕ)) (word : List ℕ) → place names word ≡ position (λ name. bytes_eq name word) names
place_is names word = place_from_is 0 names word ∙ sym (position_from-zero (λ name. bytes_eq name word) names)
