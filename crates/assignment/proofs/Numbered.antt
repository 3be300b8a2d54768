-- A `for` over a numbered slice from its last element to its first: what each turn takes, and how many turns there are. Assumes nothing.
use Rattle.std.proofs.Common.{◌≡◌, ℕ, zero, suc, ◌+◌, ◌-◌, ◌<◌, List, [], ◌∷◌, ◌++◌, length, get_or, drop, None, Some, Option, Bor, refl, sym, ap, ◌∙◌, subst, arith}
use mathlib.Core.List.{reverse}
use Rattle.std.specs.List.{enumerate_from}
use Rattle.std.specs.Iterator.{Yields}
use Rattle.std.specs.Iterator.Adapters.{rev_source, rev_steps, enumerate_source, enumerate_count, enumerate_steps_back}
use Rattle.std.specs.declared.iter.Rev.{Rev}
use Rattle.std.specs.declared.iter.Enumerate.{Enumerate}
use Rattle.std.specs.declared.slice.Iter.{Iter}
use Rattle.std.specs.Slice.Iter.{iter_rest, iter_steps_back}
use Rattle.std.proofs.lemmas.Iterator.{YieldsList}
use Rattle.std.proofs.lemmas.Iterator.Consumers.{YieldsList-from_shown}
use Rattle.std.proofs.lemmas.List.{drop_more, reverse-append, length-reverse}
use Rattle.values.proofs.Backwards.{Turn, back_turn, back_end}

length_numbered : {A : Type 0} (n : ℕ) (xs : List A) → length (enumerate_from n xs) ≡ length xs
length_numbered n [] = refl
length_numbered n (x ∷ xs) = ap suc (length_numbered (n + 1) xs)

numbered_push : {A : Type 0} (n : ℕ) (xs : List A) (x : A) → enumerate_from n (xs ++ x ∷ []) ≡ enumerate_from n xs ++ (n + length xs, x) ∷ []
numbered_push n [] x = let e : n ≡ n + 0 = omega arith in ap (λ k. (k, x) ∷ []) e
numbered_push n (y ∷ xs) x = let e : n + 1 + length xs ≡ n + suc (length xs) = omega arith in ap (λ zs. (n, y) ∷ zs) (numbered_push (n + 1) xs x ∙ ap (λ k. enumerate_from (n + 1) xs ++ (k, x) ∷ []) e)

numbered_at : {A : Type 0} (n k : ℕ) (xs : List A) (d : ℕ × A) → k < length xs → get_or (enumerate_from n xs) k d ≡ (n + k, get_or xs k d.1)
numbered_at n k [] d h = absurd (omega arith)
numbered_at n zero (x ∷ xs) d h = let e : n ≡ n + 0 = omega arith in ap (λ k. (k, x)) e
numbered_at n (suc k) (x ∷ xs) d h = let e : n + 1 + k ≡ n + suc k = omega arith in numbered_at (n + 1) k xs d (omega arith) ∙ ap (λ j. (j, get_or xs k d.1)) e

-- one element from the back
rev_numbered_push : {A : Type 0} (n : ℕ) (xs : List A) (x : A) → reverse (enumerate_from n (xs ++ x ∷ [])) ≡ (n + length xs, x) ∷ reverse (enumerate_from n xs)
rev_numbered_push n xs x = ap reverse (numbered_push n xs x) ∙ reverse-append (enumerate_from n xs) ((n + length xs, x) ∷ [])

abbrev pub shown_back : {A : Type 0} → Rev (Enumerate (Iter A)) → List (ℕ × A)
shown_back u = reverse (enumerate_from (enumerate_count (rev_source u)) (iter_rest (enumerate_source (rev_source u))))

pub YieldsList-from_rev_numbered : {A : Type 0} {s : Rev (Enumerate (Iter A))} (left : Iter A → ℕ) (all : List A) → iter_rest (enumerate_source (rev_source s)) ≡ all → enumerate_count (rev_source s) ≡ 0 → ((u : Iter A) → left u ≡ length (iter_rest u)) →
    YieldsList (rev_steps (enumerate_steps_back iter_steps_back left)) (λ (p : ℕ × Bor A). (p.0, p.1.now)) s (reverse (enumerate_from 0 all))
YieldsList-from_rev_numbered {A} {s} left all e z long =
    subst (λ n. YieldsList (rev_steps (enumerate_steps_back iter_steps_back left)) (λ (p : ℕ × Bor A). (p.0, p.1.now)) s (reverse (enumerate_from n all))) z
    (subst (λ ys. YieldsList (rev_steps (enumerate_steps_back iter_steps_back left)) (λ (p : ℕ × Bor A). (p.0, p.1.now)) s (reverse (enumerate_from (enumerate_count (rev_source s)) ys))) e
    (YieldsList-from_shown (rev_steps (enumerate_steps_back iter_steps_back left)) (λ (p : ℕ × Bor A). (p.0, p.1.now)) shown_back
    (λ u t p. length-reverse _ ∙ length_numbered _ (iter_rest (enumerate_source (rev_source u))) ∙ p.1.0)
    (λ u x t p.
    let n = enumerate_count (rev_source u) in
    let rest = iter_rest (enumerate_source (rev_source t)) in
    let k : n + length rest ≡ x.0 = omega (arith, p.1.1, long (enumerate_source (rev_source t))) in
    ap (λ ys. reverse (enumerate_from n ys)) p.1.0 ∙ rev_numbered_push n rest x.1.now ∙ ap (λ j. (j, x.1.now) ∷ reverse (enumerate_from n rest)) k ∙ ap (λ j. (x.0, x.1.now) ∷ reverse (enumerate_from j rest)) (sym p.0)) s))

-- the element taken after n others, from the back, and its number
pub record NumberedTurn {A : Type 0} (all : List A) (n i : ℕ) (x : A) : Type 0 where
  pub left : n < length all
  pub place : i ≡ length all - (n + 1)
  pub rest : drop i all ≡ x ∷ drop (length all - n) all

pub numbered_turn : {S A : Type 0} {steps : S → Option (ℕ × Bor A) → S → Type 0} {s : S} (all : List A) → YieldsList steps (λ (p : ℕ × Bor A). (p.0, p.1.now)) s (reverse (enumerate_from 0 all)) → (xs : List (ℕ × Bor A)) (t : S) → Yields steps s xs t →
    (r : Option (ℕ × Bor A)) (u : S) (i : ℕ) (x : Bor A) → r ≡ Some (i, x) → steps t r u → NumberedTurn all (length xs) i x.now
numbered_turn {A = A} all road xs t y r u i x is step = record { left = left; place = place; rest = rest }
  where
    turn : Turn (enumerate_from 0 all) (length xs) (i, x.now)
    turn = back_turn (enumerate_from 0 all) road xs t y r u (i, x) is step

    left : length xs < length all
    left = omega (arith, turn.left, length_numbered 0 all)

    k : ℕ
    k = length all - (length xs + 1)

    same : ◌≡◌ {A = ℕ × A} (i, x.now) (0 + k, get_or all k x.now)
    same =
        let e : length (enumerate_from 0 all) - (length xs + 1) ≡ k = omega (arith, length_numbered 0 all) in
        turn.here ∙ ap (λ j. get_or (enumerate_from 0 all) j (i, x.now)) e ∙ numbered_at 0 k all (i, x.now) (omega (arith, left))

    place : i ≡ k
    place = let e : i ≡ 0 + k = ap (λ p. p.0) same in omega arith

    rest : drop i all ≡ x.now ∷ drop (length all - length xs) all
    rest =
        let e : k + 1 ≡ length all - length xs = omega (arith, left) in
        ap (λ j. drop j all) place ∙ drop_more all k x.now (omega (arith, left)) ∙ ap (λ y. y ∷ drop (k + 1) all) (sym (ap (λ p. p.1) same)) ∙ ap (λ j. x.now ∷ drop j all) e

pub numbered_end : {S A : Type 0} {steps : S → Option (ℕ × Bor A) → S → Type 0} {s : S} (all : List A) → YieldsList steps (λ (p : ℕ × Bor A). (p.0, p.1.now)) s (reverse (enumerate_from 0 all)) → (xs : List (ℕ × Bor A)) (t : S) → Yields steps s xs t →
    (r : Option (ℕ × Bor A)) (u : S) → r ≡ None → steps t r u → length xs ≡ length all
numbered_end all road xs t y r u is step = back_end (enumerate_from 0 all) road xs t y r u is step ∙ length_numbered 0 all
