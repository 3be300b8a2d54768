-- The numbers below a bound, as ranges and chains of iterators give them. Assumes nothing.
use Rattle.std.proofs.Common.{◌≡◌, ℕ, zero, suc, ◌+◌, ◌-◌, ◌<◌, ◌≤◌, Bool, true, false, ◌||◌, ltb, eqb, List, [], ◌∷◌, ◌++◌, length, get_or, take, map, filter, Some, None, Option, sym, refl, ap, ◌∙◌, arith}
use Rattle.std.specs.List.{range_with_len, filter_map}
use Rattle.std.specs.Option.{option_to_list}
use Rattle.std.specs.Iterator.{Yields}
use Rattle.std.proofs.lemmas.Iterator.{YieldsList}
use Rattle.std.proofs.lemmas.Iterator.Consumers.{YieldsList-turn, YieldsList-end}
use Rattle.std.proofs.lemmas.Bool.{and_from, lt-ltb, ltb-true}
use Rattle.values.specs.Fold.{gather, any, all, each, select, count_up, those, is_in}
use Rattle.values.proofs.Chains.{select_is}
use Rattle.retreats.proofs.Elements.{added}
use Rattle.tables.proofs.Folds.{all_append, all_take, all-select, all-at}

range_is : (a n : ℕ) → range_with_len a n ≡ count_up a n
unfolding count_up
range_is a zero = refl
range_is a (suc n) = ap (λ ns. a ∷ ns) (range_is (a + 1) n)

pub those_is : (n : ℕ) (test : ℕ → Bool) → filter test (range_with_len 0 n) ≡ those n test
those_is n test = ap (filter test) (range_is 0 n) ∙ sym (select_is test (count_up 0 n))

-- ---- each is below the bound
below : (n a k : ℕ) → a + k ≤ n → all (λ r. ltb r n) (count_up a k) ≡ true
unfolding all count_up
below n a zero h = refl
below n a (suc k) h = and_from (ltb a n) (all (λ r. ltb r n) (count_up (a + 1) k)) (lt-ltb a n (omega arith)) (below n (a + 1) k (omega arith))

pub chosen_below : (n : ℕ) (first others : ℕ → Bool) (most i d : ℕ) → i < length (take most (those n first ++ those n others)) → get_or (take most (those n first ++ those n others)) i d < n
chosen_below n first others most i d h =
    let low = λ (r : ℕ). ltb r n in
    let ns = below n 0 n (omega arith) in
    let both = all_append low (those n first) (those n others) (all-select low first (count_up 0 n) ns) (all-select low others (count_up 0 n) ns) in
    ltb-true _ n (all-at low (take most (those n first ++ those n others)) i d (all_take low most (those n first ++ those n others) both) h)

-- ---- one more number in a list
pub in_more : (q : ℕ) (ns : List ℕ) (n : ℕ) → is_in q (ns ++ n ∷ []) ≡ (eqb q n || is_in q ns)
unfolding any
in_more q [] n = refl
in_more q (k ∷ ns) n = ap (λ b. eqb q k || b) (in_more q ns n) ∙ swap (eqb q k) (eqb q n) (is_in q ns)
  where
    swap : (a b c : Bool) → (a || (b || c)) ≡ (b || (a || c))
    swap a b c = grind arith

-- ---- the first of a list, and of two lists, one behind the other
pub take_one : {A : Type 0} (k : ℕ) (x : A) (xs : List A) → 0 < k → take k (x ∷ xs) ≡ x ∷ take (k - 1) xs
take_one k x xs h = let e : k ≡ suc (k - 1) = omega arith in ap (λ j. take j (x ∷ xs)) e

pub take_both : (k : ℕ) (xs ys : List ℕ) → take k (xs ++ ys) ≡ take k xs ++ take (k - length xs) ys
take_both k [] ys = none k ∙ (let e : k ≡ k - 0 = omega arith in ap (λ j. take {A = ℕ} k [] ++ take j ys) e)
  where
    none : (j : ℕ) → take j ys ≡ take {A = ℕ} j [] ++ take j ys
    none zero = refl
    none (suc j) = refl
take_both zero (x ∷ xs) ys = let e : 0 - suc (length xs) ≡ 0 = omega arith in ap (λ j. take j ys) (sym e)
take_both (suc k) (x ∷ xs) ys = ap (λ l. x ∷ l) (take_both k xs ys ∙ (let e : k - length xs ≡ suc k - suc (length xs) = omega arith in ap (λ j. take k xs ++ take j ys) e))

pub in_both : (q : ℕ) (xs ys : List ℕ) → is_in q (xs ++ ys) ≡ (is_in q xs || is_in q ys)
unfolding any
in_both q [] ys = refl
in_both q (x ∷ xs) ys = ap (λ b. eqb q x || b) (in_both q xs ys) ∙ group (eqb q x) (is_in q xs) (is_in q ys)
  where
    group : (a b c : Bool) → (a || (b || c)) ≡ ((a || b) || c)
    group a b c = grind arith

-- chosen from the first list, then what is left from the second
pub chosen_both : (k left : ℕ) (xs ys : List ℕ) (none first second : ℕ → Bool) → left ≡ k - length xs → ((q : ℕ) → none q ≡ false) →
    ((q : ℕ) → first q ≡ (none q || is_in q (take k xs))) → ((q : ℕ) → second q ≡ (first q || is_in q (take left ys))) →
    (q : ℕ) → second q ≡ is_in q (take k (xs ++ ys))
chosen_both k left xs ys none first second el en ef es q =
    es q ∙ ap (λ b. b || is_in q (take left ys)) (ef q ∙ ap (λ b. b || is_in q (take k xs)) (en q)) ∙ ap (λ j. is_in q (take k xs) || is_in q (take j ys)) el ∙
    sym (ap (is_in q) (take_both k xs ys) ∙ in_both q (take k xs) (take (k - length xs) ys))

-- ---- what the numbers give
each_is : {A : Type 0} (give : ℕ → Option A) (ns : List ℕ) → filter_map give ns ≡ each (λ n. option_to_list (give n)) ns
unfolding each
each_is give [] = refl
each_is give (n ∷ ns) = added (give n) (filter_map give ns) ∙ ap (λ l. option_to_list (give n) ++ l) (each_is give ns)

all_kept : (ns : List ℕ) → select (λ n. true) ns ≡ ns
unfolding gather
all_kept [] = refl
all_kept (n ∷ ns) = ap (λ l. n ∷ l) (all_kept ns)

pub given_is : {A : Type 0} (n : ℕ) (give : ℕ → Option A) (out : ℕ → List A) → ((r : ℕ) → option_to_list (give r) ≡ out r) → filter_map give (range_with_len 0 n) ≡ each out (those n (λ r. true))
given_is n give out same = ap (filter_map give) (range_is 0 n) ∙ each_is give (count_up 0 n) ∙ (λ i. each (λ r. same r i) (count_up 0 n)) ∙ ap (each out) (sym (all_kept (count_up 0 n)))

-- ---- a `for` over a chain, whose steps the loop shows
pub turn_of : {S A B : Type 0} {steps : S → Option A → S → Type 0} {v : A → B} {s : S} {given : List B} (xs : List A) (t : S) → Yields steps s xs t → (r : Option A) (u : S) (x : A) → r ≡ Some x → steps t r u → YieldsList steps v s given →
    (length xs < length given) × (v x ≡ get_or given (length xs) (v x))
turn_of xs t y r u x is step road = YieldsList-turn road xs t y r u x is step

pub end_of : {S A B : Type 0} {steps : S → Option A → S → Type 0} {v : A → B} {s : S} {given : List B} (xs : List A) (t : S) → Yields steps s xs t → (r : Option A) (u : S) → r ≡ None → steps t r u → YieldsList steps v s given → (map v xs ≡ given) × (length xs ≡ length given)
end_of xs t y r u is step road = YieldsList-end road xs t y r u is step
