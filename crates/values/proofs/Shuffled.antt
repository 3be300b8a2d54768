-- What a list comes to doesn't depend on its order: folds whose steps commute, tests, counts, and searches that only one element passes.
use Rattle.std.proofs.Common.{◌≡◌, ℕ, suc, Bool, true, false, cond, not, ◌&&◌, ◌||◌, eqb, ◌⊎◌, List, [], ◌∷◌, ◌++◌, map, length, Some, None, sym, refl, ap, ◌∙◌, subst, inl, inr, arith}
use mathlib.Core.List.Memᴰ
use mathlib.Core.List.{Memᴰ}
use Rattle.std.proofs.lemmas.Bool.{true≢false, eqb-true, eq-eqb, and_parts, and_from, not-true, or_left, or_right}
use Rattle.values.specs.Fold.{gather, any, all, select, number, find, is_in, pick, each, only, distinct}
use Rattle.values.specs.Shuffle.{Shuffled, nothing, same_first, swap, twice}

-- ---- the relation itself
pub shuffle_refl : {A : Type 0} (xs : List A) → Shuffled A xs xs
shuffle_refl [] = nothing
shuffle_refl (x ∷ xs) = same_first x (shuffle_refl xs)

pub shuffle_eq : {A : Type 0} {xs ys : List A} → xs ≡ ys → Shuffled A xs ys
shuffle_eq {A} {xs} e = subst (λ zs. Shuffled A xs zs) e (shuffle_refl xs)

pub shuffle_sym : {A : Type 0} {xs ys : List A} → Shuffled A xs ys → Shuffled A ys xs
shuffle_sym nothing = nothing
shuffle_sym (same_first x s) = same_first x (shuffle_sym s)
shuffle_sym (swap x y xs) = swap y x xs
shuffle_sym (twice s t) = twice (shuffle_sym t) (shuffle_sym s)

pub length_shuffle : {A : Type 0} {xs ys : List A} → Shuffled A xs ys → length xs ≡ length ys
length_shuffle nothing = refl
length_shuffle (same_first x s) = ap suc (length_shuffle s)
length_shuffle (swap x y xs) = refl
length_shuffle (twice s t) = length_shuffle s ∙ length_shuffle t

pub mem_shuffle : {A : Type 0} {xs ys : List A} → Shuffled A xs ys → (x : A) → Memᴰ x xs → Memᴰ x ys
mem_shuffle nothing x i = i
mem_shuffle (same_first y s) x i = elim (Memᴰ.cases_cons i) [ inl e ↦ Memᴰ.head e | inr j ↦ Memᴰ.tail (mem_shuffle s x j) ]
mem_shuffle (swap y z xs) x i =
    elim (Memᴰ.cases_cons i) [ inl e ↦ Memᴰ.tail (Memᴰ.head e) | inr j ↦ elim (Memᴰ.cases_cons j) [ inl e ↦ Memᴰ.head e | inr k ↦ Memᴰ.tail (Memᴰ.tail k) ] ]
mem_shuffle (twice s t) x i = mem_shuffle t x (mem_shuffle s x i)

pub map_shuffle : {A B : Type 0} (f : A → B) {xs ys : List A} → Shuffled A xs ys → Shuffled B (map f xs) (map f ys)
map_shuffle f nothing = nothing
map_shuffle f (same_first x s) = same_first (f x) (map_shuffle f s)
map_shuffle f (swap x y xs) = swap (f x) (f y) (map f xs)
map_shuffle f (twice s t) = twice (map_shuffle f s) (map_shuffle f t)

-- both the function and the order changed
pub map_both : {A B : Type 0} (f g : A → B) {xs ys : List A} → ((x : A) → f x ≡ g x) → Shuffled A xs ys → Shuffled B (map f xs) (map g ys)
map_both f g {xs} e s = twice (shuffle_eq (λ i. map (λ x. e x i) xs)) (map_shuffle g s)

-- ---- joined
pub append_left : {A : Type 0} (cs : List A) {xs ys : List A} → Shuffled A xs ys → Shuffled A (cs ++ xs) (cs ++ ys)
append_left [] s = s
append_left (a ∷ cs) s = same_first a (append_left cs s)

pub append_right : {A : Type 0} {xs ys : List A} (zs : List A) → Shuffled A xs ys → Shuffled A (xs ++ zs) (ys ++ zs)
append_right zs nothing = shuffle_refl zs
append_right zs (same_first x s) = same_first x (append_right zs s)
append_right zs (swap x y xs) = swap x y (xs ++ zs)
append_right zs (twice s t) = twice (append_right zs s) (append_right zs t)

pub append_both : {A : Type 0} {xs ys us vs : List A} → Shuffled A xs ys → Shuffled A us vs → Shuffled A (xs ++ us) (ys ++ vs)
append_both {A} {xs} {ys} {us} {vs} s t = twice (append_right us s) (append_left ys t)

later : {A : Type 0} (a : A) (bs rs : List A) → Shuffled A (a ∷ (bs ++ rs)) (bs ++ (a ∷ rs))
later a [] rs = shuffle_refl (a ∷ rs)
later a (b ∷ bs) rs = twice (swap a b (bs ++ rs)) (same_first b (later a bs rs))

pub append-swap : {A : Type 0} (cs bs rs : List A) → Shuffled A (cs ++ (bs ++ rs)) (bs ++ (cs ++ rs))
append-swap [] bs rs = shuffle_refl (bs ++ rs)
append-swap (a ∷ cs) bs rs = twice (same_first a (append-swap cs bs rs)) (later a bs (cs ++ rs))

pub each_shuffle : {A B : Type 0} (f : A → List B) {xs ys : List A} → Shuffled A xs ys → Shuffled B (each f xs) (each f ys)
unfolding each
each_shuffle f nothing = nothing
each_shuffle f (same_first x s) = append_left (f x) (each_shuffle f s)
each_shuffle f (swap x y xs) = append-swap (f x) (f y) (each f xs)
each_shuffle f (twice s t) = twice (each_shuffle f s) (each_shuffle f t)

pub each_both : {A B : Type 0} (f g : A → List B) {xs ys : List A} → ((x : A) → f x ≡ g x) → Shuffled A xs ys → Shuffled B (each f xs) (each g ys)
each_both f g {xs} e s = twice (shuffle_eq (λ i. each (λ x. e x i) xs)) (each_shuffle g s)

-- ---- folds
cond-swap : {B : Type 0} (s t : Bool) (f g : B → B) (h : B) → ((b : B) → f (g b) ≡ g (f b)) → cond s (f (cond t (g h) h)) (cond t (g h) h) ≡ cond t (g (cond s (f h) h)) (cond s (f h) h)
cond-swap true true f g h e = e h
cond-swap true false f g h e = refl
cond-swap false true f g h e = refl
cond-swap false false f g h e = refl

-- steps that commute
pub gather_shuffle : {A B : Type 0} (test : A → Bool) (step : A → B → B) (start : B) → ((x y : A) (b : B) → step x (step y b) ≡ step y (step x b)) →
    {xs ys : List A} → Shuffled A xs ys → gather test step start xs ≡ gather test step start ys
unfolding gather
gather_shuffle test step start e nothing = refl
gather_shuffle test step start e (same_first x s) = ap (λ h. cond (test x) (step x h) h) (gather_shuffle test step start e s)
gather_shuffle test step start e (swap x y xs) = cond-swap (test x) (test y) (step x) (step y) (gather test step start xs) (e x y)
gather_shuffle test step start e (twice s t) = gather_shuffle test step start e s ∙ gather_shuffle test step start e t

pub number_shuffle : {A : Type 0} (test : A → Bool) {xs ys : List A} → Shuffled A xs ys → number test xs ≡ number test ys
number_shuffle test s = gather_shuffle test (λ x n. suc n) 0 (λ x y n. refl) s

or_swap : (a b c : Bool) → (a || (b || c)) ≡ (b || (a || c))
or_swap a b c = grind arith

and_swap : (a b c : Bool) → (a && (b && c)) ≡ (b && (a && c))
and_swap a b c = grind arith

pub any_shuffle : {A : Type 0} (test : A → Bool) {xs ys : List A} → Shuffled A xs ys → any test xs ≡ any test ys
unfolding any
any_shuffle test nothing = refl
any_shuffle test (same_first x s) = ap (λ h. test x || h) (any_shuffle test s)
any_shuffle test (swap x y xs) = or_swap (test x) (test y) (any test xs)
any_shuffle test (twice s t) = any_shuffle test s ∙ any_shuffle test t

pub all_shuffle : {A : Type 0} (test : A → Bool) {xs ys : List A} → Shuffled A xs ys → all test xs ≡ all test ys
unfolding all
all_shuffle test nothing = refl
all_shuffle test (same_first x s) = ap (λ h. test x && h) (all_shuffle test s)
all_shuffle test (swap x y xs) = and_swap (test x) (test y) (all test xs)
all_shuffle test (twice s t) = all_shuffle test s ∙ all_shuffle test t

-- both the test and the order changed
pub any_both : {A : Type 0} (f g : A → Bool) {xs ys : List A} → ((x : A) → f x ≡ g x) → Shuffled A xs ys → any f xs ≡ any g ys
any_both f g {xs} e s = (λ i. any (λ x. e x i) xs) ∙ any_shuffle g s

-- what passes, put before a list that is shuffled too
cons_same : {B : Type 0} (s : Bool) (b : B) {hs ks : List B} → Shuffled B hs ks → Shuffled B (cond s (b ∷ hs) hs) (cond s (b ∷ ks) ks)
cons_same true b k = same_first b k
cons_same false b k = k

cons_swap : {B : Type 0} (s t : Bool) (a b : B) (hs : List B) → Shuffled B (cond s (a ∷ cond t (b ∷ hs) hs) (cond t (b ∷ hs) hs)) (cond t (b ∷ cond s (a ∷ hs) hs) (cond s (a ∷ hs) hs))
cons_swap true true a b hs = swap a b hs
cons_swap true false a b hs = shuffle_refl (a ∷ hs)
cons_swap false true a b hs = shuffle_refl (b ∷ hs)
cons_swap false false a b hs = shuffle_refl hs

more_shuffle : {A B : Type 0} (test : A → Bool) (f : A → B) (start : List B) {xs ys : List A} → Shuffled A xs ys →
    Shuffled B (gather test (λ x rest. f x ∷ rest) start xs) (gather test (λ x rest. f x ∷ rest) start ys)
unfolding gather
more_shuffle test f start nothing = shuffle_refl start
more_shuffle test f start (same_first x s) = cons_same (test x) (f x) (more_shuffle test f start s)
more_shuffle test f start (swap x y xs) = cons_swap (test x) (test y) (f x) (f y) (gather test (λ z rest. f z ∷ rest) start xs)
more_shuffle test f start (twice s t) = twice (more_shuffle test f start s) (more_shuffle test f start t)

more_start : {A B : Type 0} (test : A → Bool) (f : A → B) {ps qs : List B} → Shuffled B ps qs → (xs : List A) →
    Shuffled B (gather test (λ x rest. f x ∷ rest) ps xs) (gather test (λ x rest. f x ∷ rest) qs xs)
unfolding gather
more_start test f s [] = s
more_start test f s (x ∷ xs) = cons_same (test x) (f x) (more_start test f s xs)

pub pick_onto : {A B : Type 0} (test : A → Bool) (f : A → B) {ps qs : List B} {xs ys : List A} → Shuffled B ps qs → Shuffled A xs ys →
    Shuffled B (gather test (λ x rest. f x ∷ rest) ps xs) (gather test (λ x rest. f x ∷ rest) qs ys)
pick_onto test f {ps} {qs} {xs} {ys} s t = twice (more_shuffle test f ps t) (more_start test f s ys)

pub pick_shuffle : {A B : Type 0} (test : A → Bool) (f : A → B) {xs ys : List A} → Shuffled A xs ys → Shuffled B (pick test f xs) (pick test f ys)
pick_shuffle test f s = more_shuffle test f [] s

pub select_shuffle : {A : Type 0} (test : A → Bool) {xs ys : List A} → Shuffled A xs ys → Shuffled A (select test xs) (select test ys)
select_shuffle test s = more_shuffle test (λ x. x) [] s

-- ---- the one of a list of one
pub only_shuffle : {A : Type 0} {xs ys : List A} → Shuffled A xs ys → only xs ≡ only ys
unfolding only
only_shuffle nothing = refl
only_shuffle (same_first x {xs} {ys} s) = go xs ys (length_shuffle s)
  where
    go : (xs ys : List _) → length xs ≡ length ys → only (x ∷ xs) ≡ only (x ∷ ys)
    go [] [] e = refl
    go [] (y ∷ ys) e = absurd (omega arith)
    go (z ∷ xs) [] e = absurd (omega arith)
    go (z ∷ xs) (y ∷ ys) e = refl
only_shuffle (swap x y xs) = refl
only_shuffle (twice s t) = only_shuffle s ∙ only_shuffle t

-- ---- numbers
pub is_in_shuffle : (n : ℕ) {xs ys : List ℕ} → Shuffled ℕ xs ys → is_in n xs ≡ is_in n ys
is_in_shuffle n s = any_shuffle (eqb n) s

pub distinct_shuffle : {xs ys : List ℕ} → Shuffled ℕ xs ys → distinct xs ≡ true → distinct ys ≡ true
unfolding distinct any
distinct_shuffle nothing d = d
distinct_shuffle (same_first x {xs} {ys} s) d =
    let h = and_parts (not (is_in x xs)) (distinct xs) d in
    and_from (not (is_in x ys)) (distinct ys) (ap not (sym (is_in_shuffle x s)) ∙ h.0) (distinct_shuffle s h.1)
distinct_shuffle (swap x y xs) d = go (eqb x y) (eqb y x) (is_in x xs) (is_in y xs) (distinct xs) (λ e. eq-eqb _ _ (sym (eqb-true _ _ e))) d
  where
    go : (a b c d e : Bool) → (b ≡ true → a ≡ true) → (not (a || c) && (not d && e)) ≡ true → (not (b || d) && (not c && e)) ≡ true
    go a b c d e i h = grind arith
distinct_shuffle (twice s t) d = distinct_shuffle t (distinct_shuffle s d)

-- ---- the first that passes, where all that pass give the same
pub first_shuffle : {A B : Type 0} (test : A → Bool) (f : A → B) (start : B) {xs ys : List A} → Shuffled A xs ys →
    ((x y : A) → Memᴰ x xs → Memᴰ y xs → test x ≡ true → test y ≡ true → f x ≡ f y) → gather test (λ x rest. f x) start xs ≡ gather test (λ x rest. f x) start ys
unfolding gather
first_shuffle test f start nothing u = refl
first_shuffle test f start (same_first x s) u = ap (λ h. cond (test x) (f x) h) (first_shuffle test f start s (λ y z i j. u y z (Memᴰ.tail i) (Memᴰ.tail j)))
first_shuffle test f start (swap x y xs) u = go (test x) refl (test y) refl
  where
    go : (a : Bool) → test x ≡ a → (b : Bool) → test y ≡ b →
        cond a (f x) (cond b (f y) (gather test (λ z rest. f z) start xs)) ≡ cond b (f y) (cond a (f x) (gather test (λ z rest. f z) start xs))
    go true p true q = u x y (Memᴰ.head refl) (Memᴰ.tail (Memᴰ.head refl)) p q
    go true p false q = refl
    go false p true q = refl
    go false p false q = refl
first_shuffle test f start (twice s t) u =
    first_shuffle test f start s u ∙ first_shuffle test f start t (λ x y i j. u x y (mem_shuffle (shuffle_sym s) x i) (mem_shuffle (shuffle_sym s) y j))

-- ---- elements told apart by a number
key_in : {A : Type 0} (key : A → ℕ) (xs : List A) (x : A) → Memᴰ x xs → is_in (key x) (map key xs) ≡ true
unfolding any
key_in key [] x i = elim i [ ]
key_in key (y ∷ xs) x i = go (Memᴰ.cases_cons i) (λ j. key_in key xs x j)
  where
    go : (x ≡ y) ⊎ Memᴰ x xs → (Memᴰ x xs → is_in (key x) (map key xs) ≡ true) → (eqb (key x) (key y) || is_in (key x) (map key xs)) ≡ true
    go (inl e) k = or_left (eqb (key x) (key y)) (is_in (key x) (map key xs)) (eq-eqb _ _ (ap key e))
    go (inr j) k = or_right (eqb (key x) (key y)) (is_in (key x) (map key xs)) (k j)

head_apart : {A : Type 0} (key : A → ℕ) (x y : A) (xs : List A) → distinct (map key (x ∷ xs)) ≡ true → Memᴰ y xs → key x ≡ key y → ⊥
unfolding distinct
head_apart key x y xs d i e = true≢false (sym (ap (λ n. is_in n (map key xs)) e ∙ key_in key xs y i) ∙ not-true _ (and_parts (not (is_in (key x) (map key xs))) (distinct (map key xs)) d).0)

-- two elements of a list whose keys are distinct are one if their keys are
pub key_unique : {A : Type 0} (key : A → ℕ) (xs : List A) → distinct (map key xs) ≡ true → (x y : A) → Memᴰ x xs → Memᴰ y xs → key x ≡ key y → x ≡ y
unfolding distinct
key_unique key [] d x y i j e = elim i [ ]
key_unique key (z ∷ xs) d x y i j e = go (Memᴰ.cases_cons i) (Memᴰ.cases_cons j) (λ k l. key_unique key xs (and_parts (not (is_in (key z) (map key xs))) (distinct (map key xs)) d).1 x y k l e)
  where
    go : (x ≡ z) ⊎ Memᴰ x xs → (y ≡ z) ⊎ Memᴰ y xs → (Memᴰ x xs → Memᴰ y xs → x ≡ y) → x ≡ y
    go (inl p) (inl q) k = p ∙ sym q
    go (inl p) (inr l) k = absurd (head_apart key z y xs d l (sym (ap key p) ∙ e))
    go (inr l) (inl q) k = absurd (head_apart key z x xs d l (sym (ap key q) ∙ sym e))
    go (inr l) (inr n) k = k l n

-- the one with a given key
pub find_shuffle : {A : Type 0} (key : A → ℕ) (n : ℕ) {xs ys : List A} → Shuffled A xs ys → distinct (map key xs) ≡ true → find (λ x. eqb n (key x)) xs ≡ find (λ x. eqb n (key x)) ys
find_shuffle key n {xs} s d = first_shuffle (λ x. eqb n (key x)) Some None s (λ x y i j p q. ap Some (key_unique key xs d x y i j (sym (eqb-true n (key x) p) ∙ eqb-true n (key y) q)))

-- distinct keys stay so
pub keys_shuffle : {A : Type 0} (key : A → ℕ) {xs ys : List A} → Shuffled A xs ys → distinct (map key xs) ≡ true → distinct (map key ys) ≡ true
keys_shuffle key s d = distinct_shuffle (map_shuffle key s) d

-- a change that keeps the keys
pub map_keys : {A B : Type 0} (key : A → ℕ) (after : B → ℕ) (f : A → B) → ((x : A) → after (f x) ≡ key x) → (xs : List A) → map after (map f xs) ≡ map key xs
map_keys key after f e [] = refl
map_keys key after f e (x ∷ xs) = λ i. e x i ∷ map_keys key after f e xs i

-- ---- what passes, with test and change changed too
pub pick_both : {A B : Type 0} (p q : A → Bool) (f : A → B) {xs ys : List A} → ((x : A) → p x ≡ q x) → Shuffled A xs ys → Shuffled B (pick p f xs) (pick q f ys)
pick_both p q f {xs} e s = twice (shuffle_eq (λ i. pick (λ x. e x i) f xs)) (pick_shuffle q f s)

pub select_both : {A : Type 0} (p q : A → Bool) {xs ys : List A} → ((x : A) → p x ≡ q x) → Shuffled A xs ys → Shuffled A (select p xs) (select q ys)
select_both p q e s = pick_both p q (λ x. x) e s

-- where the changes agree on what passes
pub pick_same : {A B : Type 0} (p : A → Bool) (f g : A → B) (xs : List A) → ((x : A) → Memᴰ x xs → p x ≡ true → f x ≡ g x) → pick p f xs ≡ pick p g xs
unfolding gather
pick_same p f g [] e = refl
pick_same p f g (x ∷ xs) e = go (p x) (e x (Memᴰ.head refl)) (pick_same p f g xs (λ y j. e y (Memᴰ.tail j)))
  where
    go : (b : Bool) → (b ≡ true → f x ≡ g x) → pick p f xs ≡ pick p g xs → cond b (f x ∷ pick p f xs) (pick p f xs) ≡ cond b (g x ∷ pick p g xs) (pick p g xs)
    go true k r = λ i. k refl i ∷ r i
    go false k r = r

-- ---- a list in which one element passes
mem_select : {A : Type 0} (test : A → Bool) (xs : List A) (x : A) → Memᴰ x xs → test x ≡ true → Memᴰ x (select test xs)
unfolding gather
mem_select test [] x i e = elim i [ ]
mem_select test (y ∷ xs) x i e = go (test y) refl (Memᴰ.cases_cons i) (λ j. mem_select test xs x j e)
  where
    go : (b : Bool) → test y ≡ b → (x ≡ y) ⊎ Memᴰ x xs → (Memᴰ x xs → Memᴰ x (select test xs)) → Memᴰ x (cond b (y ∷ select test xs) (select test xs))
    go true p (inl q) k = Memᴰ.head q
    go true p (inr j) k = Memᴰ.tail (k j)
    go false p (inl q) k = absurd (true≢false (sym e ∙ (ap test q ∙ p)))
    go false p (inr j) k = k j

pub one_selected : {A : Type 0} (test : A → Bool) (xs : List A) (w : A) → select test xs ≡ w ∷ [] → (x : A) → Memᴰ x xs → test x ≡ true → x ≡ w
one_selected test xs w s x i e =
    elim (Memᴰ.cases_cons (subst (λ zs. Memᴰ x zs) s (mem_select test xs x i e))) [ inl q ↦ q | inr j ↦ elim j [ ] ]

none_passes : {A : Type 0} (test : A → Bool) (xs : List A) → number test xs ≡ 0 → (x : A) → Memᴰ x xs → test x ≡ true → ⊥
unfolding gather
none_passes test [] n x i e = elim i [ ]
none_passes test (y ∷ xs) n x i e = go (test y) refl (Memᴰ.cases_cons i) (λ k j. none_passes test xs k x j e) n
  where
    go : (b : Bool) → test y ≡ b → (x ≡ y) ⊎ Memᴰ x xs → (number test xs ≡ 0 → Memᴰ x xs → ⊥) → cond b (suc (number test xs)) (number test xs) ≡ 0 → ⊥
    go true p j k z = omega arith
    go false p (inl q) k z = true≢false (sym e ∙ (ap test q ∙ p))
    go false p (inr j) k z = k z j

-- where just one passes, two that pass are one
pub one_passes : {A : Type 0} (test : A → Bool) (xs : List A) → number test xs ≡ 1 → (x y : A) → Memᴰ x xs → Memᴰ y xs → test x ≡ true → test y ≡ true → x ≡ y
unfolding gather
one_passes test [] n x y i j p q = elim i [ ]
one_passes test (z ∷ xs) n x y i j p q =
    go (test z) refl (Memᴰ.cases_cons i) (Memᴰ.cases_cons j) (λ k a c. one_passes test xs k x y a c p q) (λ k a. none_passes test xs k x a p) (λ k a. none_passes test xs k y a q) n
  where
    go : (b : Bool) → test z ≡ b → (x ≡ z) ⊎ Memᴰ x xs → (y ≡ z) ⊎ Memᴰ y xs → (number test xs ≡ 1 → Memᴰ x xs → Memᴰ y xs → x ≡ y) →
        (number test xs ≡ 0 → Memᴰ x xs → ⊥) → (number test xs ≡ 0 → Memᴰ y xs → ⊥) → cond b (suc (number test xs)) (number test xs) ≡ 1 → x ≡ y
    go true e (inl a) (inl c) k u v h = a ∙ sym c
    go true e (inl a) (inr c) k u v h = absurd (v (omega arith) c)
    go true e (inr a) c k u v h = absurd (u (omega arith) a)
    go false e (inl a) c k u v h = absurd (true≢false (sym p ∙ (ap test a ∙ e)))
    go false e (inr a) (inl c) k u v h = absurd (true≢false (sym q ∙ (ap test c ∙ e)))
    go false e (inr a) (inr c) k u v h = k h a c

-- ---- who is among what each gives
pub record Given {A B : Type 0} (f : A → List B) (xs : List A) (b : B) : Type 0 where
  pub giver : A
  pub member : Memᴰ giver xs
  pub gift : Memᴰ b (f giver)

pub mem_each : {A B : Type 0} (f : A → List B) (xs : List A) (b : B) → Memᴰ b (each f xs) → Given f xs b
unfolding each
mem_each f [] b i = elim i [ ]
mem_each f (x ∷ xs) b i = go (Memᴰ.append_cases (f x) i) (λ j. mem_each f xs b j)
  where
    go : Memᴰ b (f x) ⊎ Memᴰ b (each f xs) → (Memᴰ b (each f xs) → Given f xs b) → Given f (x ∷ xs) b
    go (inl j) k = record { giver = x; member = Memᴰ.head refl; gift = j }
    go (inr j) k = let g = k j in record { giver = g.giver; member = Memᴰ.tail g.member; gift = g.gift }

pub any_member : {A : Type 0} (test : A → Bool) (xs : List A) (x : A) → Memᴰ x xs → test x ≡ true → any test xs ≡ true
unfolding any
any_member test [] x i e = elim i [ ]
any_member test (y ∷ xs) x i e = go (Memᴰ.cases_cons i) (λ j. any_member test xs x j e)
  where
    go : (x ≡ y) ⊎ Memᴰ x xs → (Memᴰ x xs → any test xs ≡ true) → (test y || any test xs) ≡ true
    go (inl q) k = or_left (test y) (any test xs) (sym (ap test q) ∙ e)
    go (inr j) k = or_right (test y) (any test xs) (k j)
