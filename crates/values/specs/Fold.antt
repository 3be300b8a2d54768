-- What a list comes to: one fold, one test over all, under the names by which the rules use them. Assumes nothing.
use Rattle.std.specs.Prelude.{ℕ, zero, suc, ◌+◌, Bool, true, false, cond, not, ◌&&◌, ◌||◌, List, [], ◌∷◌, ◌++◌, Some, None, Option, nat_eq}

-- each element that passes the test is put to what the rest comes to
unfoldable pub gather : {A B : Type 0} → (A → Bool) → (A → B → B) → B → List A → B
gather test step start [] = start
gather test step start (x ∷ xs) = cond (test x) (step x (gather test step start xs)) (gather test step start xs)

-- whether some element passes the test
unfoldable pub any : {A : Type 0} → (A → Bool) → List A → Bool
any test [] = false
any test (x ∷ xs) = test x || any test xs

-- whether all do
unfoldable pub all : {A : Type 0} → (A → Bool) → List A → Bool
all test [] = true
all test (x ∷ xs) = test x && all test xs

-- those that pass the test, in their order
abbrev pub select : {A : Type 0} → (A → Bool) → List A → List A
select test xs = gather test (λ x rest. x ∷ rest) [] xs

-- how many do
abbrev pub number : {A : Type 0} → (A → Bool) → List A → ℕ
number test xs = gather test (λ x n. suc n) 0 xs

-- the first that does
abbrev pub find : {A : Type 0} → (A → Bool) → List A → Option A
find test xs = gather test (λ x rest. Some x) None xs

abbrev pub is_in : ℕ → List ℕ → Bool
is_in n ns = any (nat_eq n) ns

-- the numbers from a on, so many of them
unfoldable pub count_up : ℕ → ℕ → List ℕ
count_up a zero = []
count_up a (suc n) = a ∷ count_up (a + 1) n

-- the numbers below n that pass the test, ascending
abbrev pub those : ℕ → (ℕ → Bool) → List ℕ
those n test = select test (count_up 0 n)

-- what the test lets through, each changed
abbrev pub pick : {A B : Type 0} → (A → Bool) → (A → B) → List A → List B
pick test change xs = gather test (λ x rest. change x ∷ rest) [] xs

-- all that each element gives, one after the other
unfoldable pub each : {A B : Type 0} → (A → List B) → List A → List B
each give [] = []
each give (x ∷ xs) = give x ++ each give xs

-- the one element of a list of one
unfoldable pub only : {A : Type 0} → List A → Option A
only [] = None
only (x ∷ []) = Some x
only (x ∷ y ∷ rest) = None

-- no number twice
unfoldable pub distinct : List ℕ → Bool
distinct [] = true
distinct (n ∷ ns) = not (is_in n ns) && distinct ns
