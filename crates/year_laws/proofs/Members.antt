-- What is in a list that a fold gives: any, all, pick, each, count_up and those, by membership. From the folds' own text.
use Rattle.std.proofs.Common.{◌≡◌, ℕ, zero, suc, ◌+◌, ◌<◌, ◌≤◌, Bool, true, false, cond, eqb, ◌⊎◌, List, [], ◌∷◌, sym, refl, ap, ◌∙◌, subst, inl, inr, arith}
use mathlib.Core.List.Memᴰ
use mathlib.Core.List.{Memᴰ}
use Rattle.std.proofs.lemmas.Bool.{true≢false, false≢true, eqb-true, eqb-false, eq-eqb, and_parts, and_from, or_left, or_right, or_cases}
use Rattle.values.specs.Fold.{gather, any, all, select, is_in, count_up, those, pick, each}

-- ---- all and any
pub all-at : {A : Type 0} (p : A → Bool) (xs : List A) → all p xs ≡ true → (x : A) → Memᴰ x xs → p x ≡ true
unfolding all
all-at p [] e x i = elim i [ ]
all-at p (y ∷ ys) e x i = elim (Memᴰ.cases_cons i) [ inl q ↦ ap p q ∙ (and_parts (p y) (all p ys) e).0 | inr j ↦ all-at p ys (and_parts (p y) (all p ys) e).1 x j ]

pub all_of : {A : Type 0} (p : A → Bool) (xs : List A) → ((x : A) → Memᴰ x xs → p x ≡ true) → all p xs ≡ true
unfolding all
all_of p [] h = refl
all_of p (y ∷ ys) h = and_from (p y) (all p ys) (h y (Memᴰ.head refl)) (all_of p ys (λ x i. h x (Memᴰ.tail i)))

pub any_at : {A : Type 0} (p : A → Bool) (xs : List A) → any p xs ≡ true → (x : A) × Memᴰ x xs × (p x ≡ true)
unfolding any
any_at p [] e = absurd (false≢true e)
any_at p (y ∷ ys) e = elim (or_cases (p y) (any p ys) e) [ inl f ↦ (y, Memᴰ.head refl, f) | inr f ↦ (let q = any_at p ys f in (q.0, Memᴰ.tail q.1, q.2)) ]

pub any_of : {A : Type 0} (p : A → Bool) (xs : List A) (x : A) → Memᴰ x xs → p x ≡ true → any p xs ≡ true
unfolding any
any_of p [] x i e = elim i [ ]
any_of p (y ∷ ys) x i e = elim (Memᴰ.cases_cons i) [ inl q ↦ or_left (p y) (any p ys) (ap p (sym q) ∙ e) | inr j ↦ or_right (p y) (any p ys) (any_of p ys x j e) ]

pub any_none : {A : Type 0} (p : A → Bool) (xs : List A) → any p xs ≡ false → (x : A) → Memᴰ x xs → p x ≡ true → ⊥
any_none p xs e x i f = true≢false (sym (any_of p xs x i f) ∙ e)

pub none_any : {A : Type 0} (p : A → Bool) (xs : List A) → ((x : A) → Memᴰ x xs → p x ≡ true → ⊥) → any p xs ≡ false
none_any p xs h = go (any p xs) refl
  where
    go : (b : Bool) → any p xs ≡ b → b ≡ false
    go true e = let q = any_at p xs e in absurd (h q.0 q.1 q.2)
    go false e = refl

pub in_list : (n : ℕ) (ns : List ℕ) → Memᴰ n ns → is_in n ns ≡ true
in_list n ns i = any_of (eqb n) ns n i (eq-eqb n n refl)

pub list_in : (n : ℕ) (ns : List ℕ) → is_in n ns ≡ true → Memᴰ n ns
list_in n ns e = let q = any_at (eqb n) ns e in Memᴰ.cast (eqb-true _ _ q.2) q.1

-- ---- what a test lets through
pub pick_at : {A B : Type 0} (p : A → Bool) (f : A → B) (xs : List A) (y : B) → Memᴰ y (pick p f xs) → (x : A) × Memᴰ x xs × (p x ≡ true) × (y ≡ f x)
unfolding gather
pick_at p f [] y i = elim i [ ]
pick_at {A} {B} p f (x ∷ xs) y i = go (p x) refl i (pick_at p f xs y)
  where
    go : (b : Bool) → p x ≡ b → Memᴰ y (cond b (f x ∷ pick p f xs) (pick p f xs)) → (Memᴰ y (pick p f xs) → (z : A) × Memᴰ z xs × (p z ≡ true) × (y ≡ f z)) → (z : A) × Memᴰ z (x ∷ xs) × (p z ≡ true) × (y ≡ f z)
    go true e i k = elim (Memᴰ.cases_cons i) [ inl q ↦ (x, Memᴰ.head refl, e, q) | inr j ↦ (let r = k j in (r.0, Memᴰ.tail r.1, r.2, r.3)) ]
    go false e i k = let r = k i in (r.0, Memᴰ.tail r.1, r.2, r.3)

pub pick_of : {A B : Type 0} (p : A → Bool) (f : A → B) (xs : List A) (x : A) → Memᴰ x xs → p x ≡ true → Memᴰ (f x) (pick p f xs)
unfolding gather
pick_of p f [] x i e = elim i [ ]
pick_of {A} {B} p f (y ∷ ys) x i e = go (p y) refl (Memᴰ.cases_cons i) (λ j. pick_of p f ys x j e)
  where
    go : (b : Bool) → p y ≡ b → (x ≡ y) ⊎ Memᴰ x ys → (Memᴰ x ys → Memᴰ (f x) (pick p f ys)) → Memᴰ (f x) (cond b (f y ∷ pick p f ys) (pick p f ys))
    go true q (inl h) k = Memᴰ.head (ap f h)
    go true q (inr j) k = Memᴰ.tail (k j)
    go false q (inl h) k = absurd (true≢false (sym e ∙ (ap p h ∙ q)))
    go false q (inr j) k = k j

pub select-at : {A : Type 0} (p : A → Bool) (xs : List A) (x : A) → Memᴰ x (select p xs) → Memᴰ x xs × (p x ≡ true)
select-at p xs x i = let q = pick_at p (λ y. y) xs x i in (Memᴰ.cast q.3 q.1, ap p q.3 ∙ q.2)

pub select_of : {A : Type 0} (p : A → Bool) (xs : List A) (x : A) → Memᴰ x xs → p x ≡ true → Memᴰ x (select p xs)
select_of p xs x i e = pick_of p (λ y. y) xs x i e

-- ---- what each element gives
pub each_at : {A B : Type 0} (f : A → List B) (xs : List A) (y : B) → Memᴰ y (each f xs) → (x : A) × Memᴰ x xs × Memᴰ y (f x)
unfolding each
each_at f [] y i = elim i [ ]
each_at f (x ∷ xs) y i = elim (Memᴰ.append_cases (f x) i) [ inl j ↦ (x, Memᴰ.head refl, j) | inr j ↦ (let q = each_at f xs y j in (q.0, Memᴰ.tail q.1, q.2)) ]

pub each_of : {A B : Type 0} (f : A → List B) (xs : List A) (y : B) (x : A) → Memᴰ x xs → Memᴰ y (f x) → Memᴰ y (each f xs)
unfolding each
each_of f [] y x i j = elim i [ ]
each_of f (z ∷ zs) y x i j = elim (Memᴰ.cases_cons i) [ inl q ↦ Memᴰ.append_left (each f zs) (subst (λ w. Memᴰ y (f w)) q j) | inr k ↦ Memᴰ.append_right (f z) (each_of f zs y x k j) ]

-- ---- numbers in a row
pub count_at : (a n k : ℕ) → Memᴰ k (count_up a n) → (a ≤ k) × (k < a + n)
unfolding count_up
count_at a zero k i = elim i [ ]
count_at a (suc n) k i = elim (Memᴰ.cases_cons i) [ inl e ↦ omega (arith, e) | inr j ↦ omega (arith, count_at (a + 1) n k j) ]

pub count_of : (a n k : ℕ) → a ≤ k → k < a + n → Memᴰ k (count_up a n)
unfolding count_up
count_of a zero k h l = absurd (omega arith)
count_of a (suc n) k h l = go (eqb k a) refl (λ u v. count_of (a + 1) n k u v)
  where
    go : (b : Bool) → eqb k a ≡ b → (a + 1 ≤ k → k < a + 1 + n → Memᴰ k (count_up (a + 1) n)) → Memᴰ k (a ∷ count_up (a + 1) n)
    go true e f = Memᴰ.head (eqb-true _ _ e)
    go false e f = Memᴰ.tail (f (omega (arith, eqb-false _ _ e)) (omega arith))

pub those-at : (n : ℕ) (p : ℕ → Bool) (k : ℕ) → Memᴰ k (those n p) → (k < n) × (p k ≡ true)
those-at n p k i = let q = select-at p (count_up 0 n) k i in let c = count_at 0 n k q.0 in (omega arith, q.1)

pub those_of : (n : ℕ) (p : ℕ → Bool) (k : ℕ) → k < n → p k ≡ true → Memᴰ k (those n p)
those_of n p k h e = select_of p (count_up 0 n) k (count_of 0 n k (omega arith) (omega arith)) e
