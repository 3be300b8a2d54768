-- Counting: how many of a list pass a test, and that the units of distinct keys are as many as the keys.
use Rattle.std.proofs.Common.{◌≡◌, ℕ, zero, suc, ◌+◌, ◌<◌, ◌≤◌, Bool, true, false, cond, not, ◌&&◌, ◌||◌, eqb, ◌⊎◌, List, [], ◌∷◌, ◌++◌, map, length, sym, refl, ap, ◌∙◌, inl, inr, arith}
use mathlib.Core.List.Memᴰ
use mathlib.Core.List.{Memᴰ}
use Rattle.std.proofs.lemmas.Bool.{true≢false, eqb-true, eq-eqb, and_parts, and_from}
use Rattle.values.specs.Fold.{gather, any, number, pick, is_in, each, count_up, those}
use Rattle.year_laws.proofs.Members.{list_in, in_list, any_at, any_of, those-at, those_of}
use Rattle.year_laws.proofs.Sorted.{Part, done, keep, skip, part_select, more, sorted_those, Apart, apart_rising}

pub number_append : {A : Type 0} (p : A → Bool) (xs ys : List A) → number p (xs ++ ys) ≡ number p xs + number p ys
unfolding gather
number_append p [] ys = omega arith
number_append p (x ∷ xs) ys = go (p x) (number_append p xs ys)
  where
    go : (b : Bool) → number p (xs ++ ys) ≡ number p xs + number p ys → cond b (suc (number p (xs ++ ys))) (number p (xs ++ ys)) ≡ cond b (suc (number p xs)) (number p xs) + number p ys
    go true e = omega arith
    go false e = e

pub number_same : {A : Type 0} (p q : A → Bool) (xs : List A) → ((x : A) → Memᴰ x xs → p x ≡ q x) → number p xs ≡ number q xs
unfolding gather
number_same p q [] h = refl
number_same p q (x ∷ xs) h = λ i. cond (h x (Memᴰ.head refl) i) (suc (number_same p q xs (λ y j. h y (Memᴰ.tail j)) i)) (number_same p q xs (λ y j. h y (Memᴰ.tail j)) i)

pub number_none : {A : Type 0} (p : A → Bool) (xs : List A) → ((x : A) → Memᴰ x xs → p x ≡ true → ⊥) → number p xs ≡ 0
unfolding gather
number_none p [] h = refl
number_none p (x ∷ xs) h = go (p x) refl (number_none p xs (λ y i. h y (Memᴰ.tail i)))
  where
    go : (b : Bool) → p x ≡ b → number p xs ≡ 0 → cond b (suc (number p xs)) (number p xs) ≡ 0
    go true e k = absurd (h x (Memᴰ.head refl) e)
    go false e k = k

pub number-all : {A : Type 0} (p : A → Bool) (xs : List A) → ((x : A) → Memᴰ x xs → p x ≡ true) → number p xs ≡ length xs
unfolding gather
number-all p [] h = refl
number-all p (x ∷ xs) h = rw (h x (Memᴰ.head refl)) (ap suc (number-all p xs (λ y i. h y (Memᴰ.tail i))))

pub number_zero : {A : Type 0} (p : A → Bool) (xs : List A) → number p xs ≡ 0 → (x : A) → Memᴰ x xs → p x ≡ true → ⊥
unfolding gather
number_zero p [] e x i f = elim i [ ]
number_zero p (y ∷ ys) e x i f = go (p y) refl e (Memᴰ.cases_cons i) (λ k j. number_zero p ys k x j f)
  where
    go : (b : Bool) → p y ≡ b → cond b (suc (number p ys)) (number p ys) ≡ 0 → (x ≡ y) ⊎ Memᴰ x ys → (number p ys ≡ 0 → Memᴰ x ys → ⊥) → ⊥
    go true q e s k = omega arith
    go false q e (inl h) k = true≢false (sym f ∙ (ap p h ∙ q))
    go false q e (inr j) k = k e j

pub number-map : {A B : Type 0} (p : B → Bool) (f : A → B) (xs : List A) → number p (map f xs) ≡ number (λ x. p (f x)) xs
unfolding gather
number-map p f [] = refl
number-map p f (x ∷ xs) = ap (λ n. cond (p (f x)) (suc n) n) (number-map p f xs)

pub number-pick : {A B : Type 0} (p : B → Bool) (t : A → Bool) (f : A → B) (xs : List A) → number p (pick t f xs) ≡ number (λ x. t x && p (f x)) xs
unfolding gather
number-pick p t f [] = refl
number-pick p t f (x ∷ xs) = go (t x) (number-pick p t f xs)
  where
    go : (b : Bool) → number p (pick t f xs) ≡ number (λ y. t y && p (f y)) xs → number p (cond b (f x ∷ pick t f xs) (pick t f xs)) ≡ cond (b && p (f x)) (suc (number (λ y. t y && p (f y)) xs)) (number (λ y. t y && p (f y)) xs)
    go true e = ap (λ n. cond (p (f x)) (suc n) n) e
    go false e = e

-- those that pass t and those that don't are all
pub number_halves : {A : Type 0} (p t : A → Bool) (xs : List A) → number (λ x. not (t x) && p x) xs + number (λ x. t x && p x) xs ≡ number p xs
unfolding gather
number_halves p t [] = refl
number_halves p t (x ∷ xs) = step (p x) (t x) _ _ _ (number_halves p t xs)
  where
    step : (a b : Bool) (m n k : ℕ) → m + n ≡ k → cond (not b && a) (suc m) m + cond (b && a) (suc n) n ≡ cond a (suc k) k
    step a b m n k e = grind arith

pub number-apart : {A : Type 0} (p q : A → Bool) (xs : List A) → ((x : A) → Memᴰ x xs → p x ≡ true → q x ≡ true → ⊥) → number (λ x. p x || q x) xs ≡ number p xs + number q xs
unfolding gather
number-apart p q [] h = refl
number-apart p q (x ∷ xs) h = go (p x) (q x) refl refl (number-apart p q xs (λ y i. h y (Memᴰ.tail i)))
  where
    go : (a b : Bool) → p x ≡ a → q x ≡ b → number (λ y. p y || q y) xs ≡ number p xs + number q xs → cond (a || b) (suc (number (λ y. p y || q y) xs)) (number (λ y. p y || q y) xs) ≡ cond a (suc (number p xs)) (number p xs) + cond b (suc (number q xs)) (number q xs)
    go true true e f k = absurd (h x (Memᴰ.head refl) e f)
    go true false e f k = omega arith
    go false true e f k = omega arith
    go false false e f k = k

pub number-each : {A B : Type 0} (p : B → Bool) (q : A → Bool) (f : A → List B) (xs : List A) → ((x : A) → number p (f x) ≤ cond (q x) 1 0) → number p (each f xs) ≤ number q xs
unfolding gather each
number-each p q f [] h = omega arith
number-each p q f (x ∷ xs) h = go (q x) (h x) (number-each p q f xs h)
  where
    go : (b : Bool) → number p (f x) ≤ cond b 1 0 → number p (each f xs) ≤ number q xs → number p (f x ++ each f xs) ≤ cond b (suc (number q xs)) (number q xs)
    go true e k = omega (arith, number_append p (f x) (each f xs))
    go false e k = omega (arith, number_append p (f x) (each f xs))

-- ---- just one
pub number_one : {A : Type 0} (f : A → ℕ) (p : A → Bool) (xs : List A) → Apart f xs → (x : A) → Memᴰ x xs → p x ≡ true → ((y : A) → Memᴰ y xs → p y ≡ true → f y ≡ f x) → number p xs ≡ 1
unfolding gather
number_one f p [] s x i e h = elim i [ ]
number_one {A} f p (y ∷ ys) (more g s) x i e h = go (p y) refl (Memᴰ.cases_cons i) (λ j. number_one f p ys s x j e (λ z k. h z (Memᴰ.tail k)))
  where
    go : (b : Bool) → p y ≡ b → (x ≡ y) ⊎ Memᴰ x ys → (Memᴰ x ys → number p ys ≡ 1) → cond b (suc (number p ys)) (number p ys) ≡ 1
    go true q (inl a) k = ap suc (number_none p ys (λ z j r. g z j (ap f (sym a) ∙ sym (h z (Memᴰ.tail j) r))))
    go true q (inr j) k = absurd (g x j (h y (Memᴰ.head refl) q))
    go false q (inl a) k = absurd (true≢false (sym e ∙ (ap p a ∙ q)))
    go false q (inr j) k = k j

pub number_sole : {A : Type 0} (p : A → Bool) (xs : List A) → number p xs ≡ 1 → (x y : A) → Memᴰ x xs → Memᴰ y xs → p x ≡ true → p y ≡ true → x ≡ y
unfolding gather
number_sole p [] e x y i j a b = elim i [ ]
number_sole p (z ∷ zs) e x y i j a b = go (p z) refl e (Memᴰ.cases_cons i) (Memᴰ.cases_cons j) (λ k u v. number_sole p zs k x y u v a b)
  where
    go : (t : Bool) → p z ≡ t → cond t (suc (number p zs)) (number p zs) ≡ 1 → (x ≡ z) ⊎ Memᴰ x zs → (y ≡ z) ⊎ Memᴰ y zs → (number p zs ≡ 1 → Memᴰ x zs → Memᴰ y zs → x ≡ y) → x ≡ y
    go true q e (inl u) (inl v) k = u ∙ sym v
    go true q e (inl u) (inr v) k = absurd (number_zero p zs (omega arith) y v b)
    go true q e (inr u) v k = absurd (number_zero p zs (omega arith) x u a)
    go false q e (inl u) v k = absurd (true≢false (sym a ∙ (ap p u ∙ q)))
    go false q e (inr u) (inl v) k = absurd (true≢false (sym b ∙ (ap p v ∙ q)))
    go false q e (inr u) (inr v) k = k e u v

-- as many elements have a key in the list as the list has keys
pub number_keys : {A : Type 0} (f : A → ℕ) (p : A → Bool) (xs : List A) → Apart f xs → (ns : List ℕ) → Apart (λ n. n) ns → ((n : ℕ) → Memᴰ n ns → (x : A) × Memᴰ x xs × (p x ≡ true) × (f x ≡ n)) → number (λ x. p x && is_in (f x) ns) xs ≡ length ns
unfolding any
number_keys f p xs s [] t h = number_none (λ x. p x && false) xs (λ x i e. true≢false (sym (and_parts (p x) false e).1))
number_keys {A} f p xs s (n ∷ ns) (more g t) h =
    number_same (λ x. p x && (eqb (f x) n || is_in (f x) ns)) (λ x. (p x && eqb (f x) n) || (p x && is_in (f x) ns)) xs (λ x i. split (p x) (eqb (f x) n) (is_in (f x) ns))
    ∙ (number-apart (λ x. p x && eqb (f x) n) (λ x. p x && is_in (f x) ns) xs never ∙ omega (arith, first, number_keys f p xs s ns t (λ k i. h k (Memᴰ.tail i))))
  where
    split : (a b c : Bool) → (a && (b || c)) ≡ ((a && b) || (a && c))
    split a b c = grind arith

    never : (x : A) → Memᴰ x xs → (p x && eqb (f x) n) ≡ true → (p x && is_in (f x) ns) ≡ true → ⊥
    never x i a b = g (f x) (list_in (f x) ns (and_parts (p x) (is_in (f x) ns) b).1) (sym (eqb-true _ _ (and_parts (p x) (eqb (f x) n) a).1))

    first : number (λ x. p x && eqb (f x) n) xs ≡ 1
    first = let q = h n (Memᴰ.head refl) in number_one f (λ x. p x && eqb (f x) n) xs s q.0 q.1 (and_from (p q.0) (eqb (f q.0) n) q.2 (eq-eqb _ _ q.3)) (λ y j e. eqb-true _ _ (and_parts (p y) (eqb (f y) n) e).1 ∙ sym q.3)

-- ---- no more elements than keys
pub part_length : {A : Type 0} {xs ys : List A} → Part xs ys → length xs ≤ length ys
part_length done = omega arith
part_length (keep x p) = omega (arith, part_length p)
part_length (skip x p) = omega (arith, part_length p)

count_length : (a n : ℕ) → length (count_up a n) ≡ n
unfolding count_up
count_length a zero = refl
count_length a (suc n) = ap suc (count_length (a + 1) n)

pub those-length : (n : ℕ) (p : ℕ → Bool) → length (those n p) ≤ n
those-length n p = omega (arith, part_length (part_select p (count_up 0 n)), count_length 0 n)

-- different keys below n are at most n
pub keys_few : {A : Type 0} (f : A → ℕ) (xs : List A) (n : ℕ) → Apart f xs → ((x : A) → Memᴰ x xs → f x < n) → length xs ≤ n
keys_few {A} f xs n s h =
    let a = number_keys f (λ x. true) xs s (those n held) (apart_rising (λ k. k) (sorted_those n held)) back in
    let b = number-all (λ x. is_in (f x) (those n held)) xs (λ x i. in_list (f x) (those n held) (those_of n held (f x) (h x i) (any_of (λ y. eqb (f x) (f y)) xs x i (eq-eqb _ _ refl)))) in
    omega (arith, a, b, those-length n held)
  where
    held : ℕ → Bool
    held k = any (λ y. eqb k (f y)) xs

    back : (k : ℕ) → Memᴰ k (those n held) → (x : A) × Memᴰ x xs × (true ≡ true) × (f x ≡ k)
    back k i = let q = any_at (λ y. eqb k (f y)) xs (those-at n held k i).1 in (q.0, q.1, refl, sym (eqb-true _ _ q.2))
