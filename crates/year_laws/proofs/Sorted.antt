-- Lists of which each element stands in a relation to all after it: parts of them, joined ones, the first k; and keys that are distinct.
use Rattle.std.proofs.Common.{◌≡◌, ℕ, zero, suc, ◌+◌, ◌<◌, Bool, true, false, cond, not, ◌⊎◌, List, [], ◌∷◌, ◌++◌, map, take, sym, refl, ap, ◌∙◌, subst, inl, inr, arith}
use mathlib.Core.List.Memᴰ
use mathlib.Core.List.{Memᴰ}
use Rattle.std.proofs.lemmas.Bool.{true≢false, not-true, and_parts, and_from}
use Rattle.values.specs.Fold.{gather, distinct, select, pick, is_in, count_up, those, each}
use Rattle.year_laws.proofs.Members.{in_list, list_in, count_at, each_at}

-- ---- a part of a list
pub data Part {A : Type 0} : List A → List A → Type 0 where
  done : Part [] []
  keep : (x : A) {xs ys : List A} → Part xs ys → Part (x ∷ xs) (x ∷ ys)
  skip : (x : A) {xs ys : List A} → Part xs ys → Part xs (x ∷ ys)

pub part_all : {A : Type 0} (xs : List A) → Part xs xs
part_all [] = done
part_all (x ∷ xs) = keep x (part_all xs)

pub part_none : {A : Type 0} (xs : List A) → Part [] xs
part_none [] = done
part_none (x ∷ xs) = skip x (part_none xs)

pub part_mem : {A : Type 0} {xs ys : List A} → Part xs ys → (z : A) → Memᴰ z xs → Memᴰ z ys
part_mem done z i = i
part_mem (keep x p) z i = elim (Memᴰ.cases_cons i) [ inl e ↦ Memᴰ.head e | inr j ↦ Memᴰ.tail (part_mem p z j) ]
part_mem (skip x p) z i = Memᴰ.tail (part_mem p z i)

pub part_select : {A : Type 0} (p : A → Bool) (xs : List A) → Part (select p xs) xs
unfolding gather
part_select p [] = done
part_select p (x ∷ xs) = go (p x) (part_select p xs)
  where
    go : (b : Bool) → Part (select p xs) xs → Part (cond b (x ∷ select p xs) (select p xs)) (x ∷ xs)
    go true k = keep x k
    go false k = skip x k

pub part_pick : {A B : Type 0} (p : A → Bool) (f : A → B) (xs : List A) → Part (pick p f xs) (map f xs)
unfolding gather
part_pick p f [] = done
part_pick p f (x ∷ xs) = go (p x) (part_pick p f xs)
  where
    go : (b : Bool) → Part (pick p f xs) (map f xs) → Part (cond b (f x ∷ pick p f xs) (pick p f xs)) (f x ∷ map f xs)
    go true k = keep (f x) k
    go false k = skip (f x) k

pub part_take : {A : Type 0} (k : ℕ) (xs : List A) → Part (take k xs) xs
part_take zero xs = part_none xs
part_take (suc k) [] = done
part_take (suc k) (x ∷ xs) = keep x (part_take k xs)

-- ---- each before all after it
pub data Sorted {A : Type 0} (R : A → A → Type 0) : List A → Type 0 where
  none : Sorted R []
  more : {x : A} {xs : List A} → ((y : A) → Memᴰ y xs → R x y) → Sorted R xs → Sorted R (x ∷ xs)

pub sorted_part : {A : Type 0} {R : A → A → Type 0} {xs ys : List A} → Part xs ys → Sorted R ys → Sorted R xs
sorted_part done s = s
sorted_part (keep x p) (more h s) = more (λ y i. h y (part_mem p y i)) (sorted_part p s)
sorted_part (skip x p) (more h s) = sorted_part p s

pub sorted_append : {A : Type 0} {R : A → A → Type 0} {xs ys : List A} → Sorted R xs → Sorted R ys → ((x y : A) → Memᴰ x xs → Memᴰ y ys → R x y) → Sorted R (xs ++ ys)
sorted_append none t h = t
sorted_append (more {x} {xs} f s) t h =
    more (λ y i. elim (Memᴰ.append_cases xs i) [ inl j ↦ f y j | inr j ↦ h x y (Memᴰ.head refl) j ]) (sorted_append s t (λ a b i j. h a b (Memᴰ.tail i) j))

pub sorted_weaken : {A : Type 0} {R S : A → A → Type 0} {xs : List A} → ((x y : A) → Memᴰ x xs → Memᴰ y xs → R x y → S x y) → Sorted R xs → Sorted S xs
sorted_weaken w none = none
sorted_weaken w (more {x} f s) = more (λ y i. w x y (Memᴰ.head refl) (Memᴰ.tail i) (f y i)) (sorted_weaken (λ a b i j. w a b (Memᴰ.tail i) (Memᴰ.tail j)) s)

pub sorted_each : {A B : Type 0} {R : A → A → Type 0} {S : B → B → Type 0} (f : A → List B) → ((x : A) → Sorted S (f x)) → ((x y : A) (a b : B) → R x y → Memᴰ a (f x) → Memᴰ b (f y) → S a b) → (xs : List A) → Sorted R xs → Sorted S (each f xs)
unfolding each
sorted_each f o h [] s = none
sorted_each f o h (x ∷ xs) (more g s) =
    sorted_append (o x) (sorted_each f o h xs s) (λ a b i j. (let q = each_at f xs b j in h x q.0 a b (g q.0 q.1) i q.2))

pub sorted_count : (a n : ℕ) → Sorted (λ x y. x < y) (count_up a n)
unfolding count_up
sorted_count a zero = none
sorted_count a (suc n) = more (λ y i. omega (arith, count_at (a + 1) n y i)) (sorted_count (a + 1) n)

pub sorted_those : (n : ℕ) (p : ℕ → Bool) → Sorted (λ x y. x < y) (those n p)
sorted_those n p = sorted_part (part_select p (count_up 0 n)) (sorted_count 0 n)

-- whoever is among the first k comes before whoever is not
pub take-before : {A : Type 0} {R : A → A → Type 0} {xs : List A} (k : ℕ) → Sorted R xs → (x y : A) → Memᴰ x (take k xs) → Memᴰ y xs → (Memᴰ y (take k xs) → ⊥) → R x y
take-before zero s x y i j n = elim i [ ]
take-before (suc k) none x y i j n = elim i [ ]
take-before {A} {R} (suc k) (more {x = z} {xs = zs} f s) x y i j n = go (Memᴰ.cases_cons i) (Memᴰ.cases_cons j) (λ p q. take-before k s x y p q (λ t. n (Memᴰ.tail t)))
  where
    go : (x ≡ z) ⊎ Memᴰ x (take k zs) → (y ≡ z) ⊎ Memᴰ y zs → (Memᴰ x (take k zs) → Memᴰ y zs → R x y) → R x y
    go a (inl e) h = absurd (n (Memᴰ.head e))
    go (inl e) (inr q) h = subst (λ w. R w y) (sym e) (f y q)
    go (inr p) (inr q) h = h p q

-- ---- no key twice
abbrev pub Apart : {A : Type 0} → (A → ℕ) → List A → Type 0
Apart f xs = Sorted (λ x y. f x ≡ f y → ⊥) xs

pub apart_from : {A : Type 0} (f : A → ℕ) (xs : List A) → distinct (map f xs) ≡ true → Apart f xs
unfolding distinct
apart_from f [] d = none
apart_from f (x ∷ xs) d = let h = and_parts (not (is_in (f x) (map f xs))) (distinct (map f xs)) d in more (λ y i e. true≢false (sym (in_list (f x) (map f xs) (Memᴰ.cast e (Memᴰ.map f i))) ∙ not-true _ h.0)) (apart_from f xs h.1)

pub apart_to : {A : Type 0} (f : A → ℕ) (xs : List A) → Apart f xs → distinct (map f xs) ≡ true
unfolding distinct
apart_to f [] s = refl
apart_to f (x ∷ xs) (more h s) = and_from (not (is_in (f x) (map f xs))) (distinct (map f xs)) (go (is_in (f x) (map f xs)) refl) (apart_to f xs s)
  where
    go : (b : Bool) → is_in (f x) (map f xs) ≡ b → not b ≡ true
    go true e = let q = Memᴰ.of_map f xs (list_in (f x) (map f xs) e) in absurd (h q.0 q.1 (sym q.2))
    go false e = refl

pub apart_same : {A : Type 0} (f : A → ℕ) {xs : List A} → Apart f xs → (x y : A) → Memᴰ x xs → Memᴰ y xs → f x ≡ f y → x ≡ y
apart_same f none x y i j e = elim i [ ]
apart_same f (more {x = z} {xs = zs} h s) x y i j e = go (Memᴰ.cases_cons i) (Memᴰ.cases_cons j) (λ a b. apart_same f s x y a b e)
  where
    go : (x ≡ z) ⊎ Memᴰ x zs → (y ≡ z) ⊎ Memᴰ y zs → (Memᴰ x zs → Memᴰ y zs → x ≡ y) → x ≡ y
    go (inl a) (inl b) k = a ∙ sym b
    go (inl a) (inr b) k = absurd (h y b (ap f (sym a) ∙ e))
    go (inr a) (inl b) k = absurd (h x a (ap f (sym b) ∙ sym e))
    go (inr a) (inr b) k = k a b

pub apart_rising : {A : Type 0} (f : A → ℕ) {xs : List A} → Sorted (λ x y. f x < f y) xs → Apart f xs
apart_rising f s = sorted_weaken (λ x y i j l e. omega arith) s

pub apart-map : {A B : Type 0} (f : B → ℕ) (h : A → B) (xs : List A) → Apart f (map h xs) → Apart (λ x. f (h x)) xs
apart-map f h [] s = none
apart-map f h (x ∷ xs) (more g s) = more (λ y i. g (h y) (Memᴰ.map h i)) (apart-map f h xs s)
