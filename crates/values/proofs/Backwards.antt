-- A `for` over a slice from its last element to its first: what each turn takes, and how many turns there are. Assumes nothing.
use Rattle.std.proofs.Common.{◌≡◌, ℕ, ◌+◌, ◌-◌, ◌<◌, List, [], ◌∷◌, ◌++◌, length, get_or, drop, None, Some, Option, sym, ap, ◌∙◌, subst, arith}
use Rattle.std.specs.Iterator.{Yields}
use Rattle.std.proofs.lemmas.List.{drop_more, drop_all, length_push, get_or-reverse, length-reverse}
use mathlib.Core.List.{reverse}
use Rattle.std.proofs.lemmas.Iterator.{YieldsList}
use Rattle.std.proofs.lemmas.Iterator.Consumers.{YieldsList-turn, YieldsList-end}

-- the element taken after n others, from the back
pub record Turn {B : Type 0} (all : List B) (n : ℕ) (x : B) : Type 0 where
  pub left : n < length all
  pub here : x ≡ get_or all (length all - (n + 1)) x
  pub rest : drop (length all - (n + 1)) all ≡ x ∷ drop (length all - n) all

pub back_turn : {S A B : Type 0} {steps : S → Option A → S → Type 0} {v : A → B} {s : S} (all : List B) → YieldsList steps v s (reverse all) → (xs : List A) (t : S) → Yields steps s xs t → (r : Option A) (u : S) (x : A) → r ≡ Some x → steps t r u → Turn all (length xs) (v x)
back_turn {v = v} all road xs t y r u x is step = record { left = left; here = here; rest = rest }
  where
    n : ℕ
    n = length xs

    turn : (length xs < length (reverse all)) × (v x ≡ get_or (reverse all) (length xs) (v x))
    turn = YieldsList-turn road xs t y r u x is step

    left : n < length all
    left = subst (λ k. n < k) (length-reverse all) turn.0

    i : ℕ
    i = length all - (n + 1)

    here : v x ≡ get_or all i (v x)
    here = let e : length all - 1 - n ≡ i = omega (arith, left) in turn.1 ∙ get_or-reverse all n (v x) left ∙ ap (λ k. get_or all k (v x)) e

    rest : drop i all ≡ v x ∷ drop (length all - n) all
    rest =
        let e : i + 1 ≡ length all - n = omega (arith, left) in
        let l : i < length all = omega (arith, left) in
        drop_more all i (v x) l ∙ ap (λ y. y ∷ drop (i + 1) all) (sym here) ∙ ap (λ k. v x ∷ drop k all) e

pub back_end : {S A B : Type 0} {steps : S → Option A → S → Type 0} {v : A → B} {s : S} (all : List B) → YieldsList steps v s (reverse all) → (xs : List A) (t : S) → Yields steps s xs t → (r : Option A) (u : S) → r ≡ None → steps t r u → length xs ≡ length all
back_end all road xs t y r u is step = (YieldsList-end road xs t y r u is step).1 ∙ length-reverse all

-- ---- a fact of what is left of the list, which grows at its front
pub back_none : {B : Type 0} (F : List B → Type 0) (all : List B) → F [] → F (drop (length all - 0) all)
back_none F all h = subst F (sym (drop_all (length all - 0) all (omega arith))) h

pub back_more : {A B : Type 0} (F : List B → Type 0) (all : List B) (xs : List A) (x : A) (y : B) → Turn all (length xs) y → F (y ∷ drop (length all - length xs) all) → F (drop (length all - length (xs ++ x ∷ [])) all)
back_more F all xs x y t h = let e : length xs + 1 ≡ length (xs ++ x ∷ []) = sym (length_push xs x) in subst (λ n. F (drop (length all - n) all)) e (subst F (sym t.rest) h)

pub back_all : {A B : Type 0} (F : List B → Type 0) (all : List B) (xs : List A) → length xs ≡ length all → F (drop (length all - length xs) all) → F all
back_all F all xs e h = let z : length all - length xs ≡ 0 = omega arith in subst (λ n. F (drop n all)) z h
