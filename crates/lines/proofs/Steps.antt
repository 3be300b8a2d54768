-- One byte or word on, and the end, of loops over them. Assumes nothing.
use Rattle.std.proofs.Common.{◌≡◌, ℕ, ◌+◌, ◌<◌, ◌≤◌, Bool, true, false, cond, ◌&&◌, eqb, List, [], ◌∷◌, ◌++◌, length, get_or, drop, Some, None, codes, Option, sym, refl, ap, ◌∙◌, append_assoc, append-nil, arith}
use Rattle.std.specs.Prelude.{nat_eq}
use Rattle.std.specs.List.{starts_with}
use Rattle.std.proofs.lemmas.List.{drop_more, drop_all}
use Rattle.std.proofs.lemmas.Bool.{eq-eqb}
use Rattle.lines.specs.declared.numbers.Step.TheVariants.{Grows, Ends, Bad}
use Rattle.lines.specs.declared.call.Key.TheVariants.{Begin, Turn}
use Rattle.lines.specs.Numbers.{before, step_in, onward, finish, numbers_from, words_in}
use Rattle.lines.specs.Calls.{under, call_in}

pub byte_more : (xs : List ℕ) (i : ℕ) → i < length xs → drop i xs ≡ get_or xs i 0 ∷ drop (i + 1) xs
byte_more xs i h = drop_more xs i 0 h

pub ruleset steps = (byte_more, drop_all, append-nil, append_assoc)

-- words read so far, before what the rest gives
abbrev pub resume : List ℕ → Option (List ℕ) → Option (List ℕ)
resume ws None = None
resume ws (Some vs) = Some (ws ++ vs)

pub resume_none : (r : Option (List ℕ)) → resume [] r ≡ r
resume_none None = refl
resume_none (Some vs) = refl

pub resume_push : (ws : List ℕ) (n : ℕ) (r : Option (List ℕ)) → resume (ws ++ n ∷ []) r ≡ resume ws (before n r)
resume_push ws n None = refl
resume_push ws n (Some vs) = ap Some (append_assoc ws (n ∷ []) vs)

-- one byte on, and the end, where some words were read
module _ (ws : List ℕ) (s : Option ℕ) (bs : List ℕ) (i : ℕ) (whole : Option (List ℕ)) (so_far : resume ws (numbers_from s (drop i bs)) ≡ whole) where
  step : i < length bs → resume ws (onward (step_in s (get_or bs i 0)) (λ t. numbers_from t (drop (i + 1) bs))) ≡ whole
  unfolding numbers_from
  step h = ap (λ l. resume ws (numbers_from s l)) (sym (byte_more bs i h)) ∙ so_far

  pub grows : (n : ℕ) → i < length bs → Grows n ≡ step_in s (get_or bs i 0) → resume ws (numbers_from (Some n) (drop (i + 1) bs)) ≡ whole
  grows n h is = ap (λ t. resume ws (onward t (λ u. numbers_from u (drop (i + 1) bs)))) is ∙ step h

  pub ends : (n : ℕ) → i < length bs → Ends n ≡ step_in s (get_or bs i 0) → resume (ws ++ n ∷ []) (numbers_from None (drop (i + 1) bs)) ≡ whole
  ends n h is = resume_push ws n (numbers_from None (drop (i + 1) bs)) ∙ ap (λ t. resume ws (onward t (λ u. numbers_from u (drop (i + 1) bs)))) is ∙ step h

  pub fails : i < length bs → Bad ≡ step_in s (get_or bs i 0) → None ≡ whole
  fails h is = ap (λ t. resume ws (onward t (λ u. numbers_from u (drop (i + 1) bs)))) is ∙ step h

  pub finishes : length bs ≤ i → resume ws (finish s) ≡ whole
  unfolding numbers_from
  finishes h = ap (λ l. resume ws (numbers_from s l)) (sym (drop_all i bs h)) ∙ so_far

-- words behind a space
pub words_spaced : (bs : List ℕ) → 0 < length bs → get_or bs 0 0 ≡ 32 → words_in bs ≡ numbers_from None (drop 1 bs)
words_spaced [] some h = absurd (omega arith)
words_spaced (b ∷ bs) some h = ap (λ t. cond t (numbers_from None bs) None) (eq-eqb b 32 h)

-- a line under the first key, and under the second
pub call_begin : (line : List ℕ) → starts_with nat_eq line (codes "begin") ≡ true → call_in line ≡ under Begin (words_in (drop 5 line))
call_begin line h = ap (λ t. cond t (under Begin (words_in (drop 5 line))) (cond (starts_with nat_eq line (codes "turn")) (under Turn (words_in (drop 4 line))) None)) h

pub call_turn : (line : List ℕ) → starts_with nat_eq line (codes "begin") ≡ false → starts_with nat_eq line (codes "turn") ≡ true → call_in line ≡ under Turn (words_in (drop 4 line))
call_turn line other h =
    ap (λ t. cond t (under Begin (words_in (drop 5 line))) (cond (starts_with nat_eq line (codes "turn")) (under Turn (words_in (drop 4 line))) None)) other ∙
    ap (λ t. cond t (under Turn (words_in (drop 4 line))) None) h
