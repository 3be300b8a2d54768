-- The folds of the rules are what std's chains of iterators make. Assumes nothing.
use Rattle.std.proofs.Common.{◌≡◌, suc, ◌+◌, Bool, cond, ◌&&◌, ◌||◌, List, [], ◌∷◌, Some, filter, refl, ap, arith}
use Rattle.std.proofs.lemmas.List.Recursion.{is_count_by}
use Rattle.std.specs.List.{list_all, list_any, count_by, find as find_first}
use Rattle.values.specs.Fold.{gather, all, any, select, number, find}

pub all_is : {A : Type 0} (test : A → Bool) (xs : List A) → all test xs ≡ list_all test xs
unfolding all
all_is test [] = refl
all_is test (x ∷ xs) = ap (λ b. test x && b) (all_is test xs)

pub any_is : {A : Type 0} (test : A → Bool) (xs : List A) → any test xs ≡ list_any test xs
unfolding any
any_is test [] = refl
any_is test (x ∷ xs) = ap (λ b. test x || b) (any_is test xs)

pub select_is : {A : Type 0} (test : A → Bool) (xs : List A) → select test xs ≡ filter test xs
unfolding gather
select_is test [] = refl
select_is test (x ∷ xs) = ap (λ ys. cond (test x) (x ∷ ys) ys) (select_is test xs)

pub find_is : {A : Type 0} (test : A → Bool) (xs : List A) → find test xs ≡ find_first test xs
unfolding gather
find_is test [] = refl
find_is test (x ∷ xs) = ap (λ o. cond (test x) (Some x) o) (find_is test xs)

pub number_is : {A : Type 0} (test : A → Bool) (xs : List A) → number test xs ≡ count_by test xs
unfolding gather
number_is test xs = is_count_by (number test) test refl (λ x xs. let e : suc (number test xs) ≡ 1 + number test xs = omega arith in ap (λ n. cond (test x) n (number test xs)) e) xs
