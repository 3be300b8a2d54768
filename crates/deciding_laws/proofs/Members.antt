-- What is in a list: of a list changed one by one, of a test over all, of two lists in a relation.
use Rattle.std.proofs.Common.{◌≡◌, Bool, true, false, ◌⊎◌, List, [], ◌∷◌, map, sym, refl, ap, ◌∙◌, subst, inl, inr}
use mathlib.Core.List.Memᴰ
use mathlib.Core.List.{Memᴰ}
use Rattle.std.proofs.lemmas.Bool.{false≢true, or_left, or_right, or_from, or_parts, or_cases}
use Rattle.values.specs.Fold.{any}
use Rattle.values.specs.declared.tri.Tri.{Tri}
use Rattle.board.specs.declared.unit.Unit.{Unit}
use Rattle.board.specs.declared.order.Order.{Order}
use Rattle.assignment.specs.declared.resolution.Resolution.{Resolution}
use Rattle.deciding_laws.proofs.Along.{it, Along, none, more}

pub mem_map : {A B : Type 0} (f : A → B) (y : B) (xs : List A) → Memᴰ y (map f xs) → (x : A) × Memᴰ x xs × (y ≡ f x)
mem_map f y [] i = elim i [ ]
mem_map {A = A} f y (x ∷ xs) i = go (mem_map f y xs) (Memᴰ.cases_cons i)
  where
    go : (Memᴰ y (map f xs) → (z : A) × Memᴰ z xs × (y ≡ f z)) → (y ≡ f x) ⊎ Memᴰ y (map f xs) → (z : A) × Memᴰ z (x ∷ xs) × (y ≡ f z)
    go r (inl e) = (x, Memᴰ.head refl, e)
    go r (inr j) = let q = r j in (q.0, Memᴰ.tail q.1, q.2)

pub mem_of : {A B : Type 0} (f : A → B) (x : A) (xs : List A) → Memᴰ x xs → Memᴰ (f x) (map f xs)
mem_of f x [] i = elim i [ ]
mem_of f x (z ∷ zs) i = elim (Memᴰ.cases_cons i) [ inl e ↦ Memᴰ.head (ap f e) | inr j ↦ Memᴰ.tail (mem_of f x zs j) ]

cons_head : {A : Type 0} {x y : A} {xs ys : List A} → x ∷ xs ≡ y ∷ ys → x ≡ y
cons_head e = cc

cons_tail : {A : Type 0} {x y : A} {xs ys : List A} → x ∷ xs ≡ y ∷ ys → xs ≡ ys
cons_tail e = cc

-- where a change changes nothing, it changes nobody
pub map_fixed : {A : Type 0} (f : A → A) (xs : List A) → map f xs ≡ xs → (x : A) → Memᴰ x xs → f x ≡ x
map_fixed f [] e x i = elim i [ ]
map_fixed f (z ∷ zs) e x i = go (map_fixed f zs (cons_tail e) x) (Memᴰ.cases_cons i)
  where
    go : (Memᴰ x zs → f x ≡ x) → (x ≡ z) ⊎ Memᴰ x zs → f x ≡ x
    go r (inl q) = subst (λ y. f y ≡ y) (sym q) (cons_head e)
    go r (inr j) = r j

pub any_false : {A : Type 0} (test : A → Bool) (xs : List A) → any test xs ≡ false → (x : A) → Memᴰ x xs → test x ≡ false
unfolding any
any_false test [] e x i = elim i [ ]
any_false test (z ∷ zs) e x i = go (any_false test zs (or_parts (test z) (any test zs) e).1 x) (Memᴰ.cases_cons i)
  where
    go : (Memᴰ x zs → test x ≡ false) → (x ≡ z) ⊎ Memᴰ x zs → test x ≡ false
    go r (inl q) = ap test q ∙ (or_parts (test z) (any test zs) e).0
    go r (inr j) = r j

pub false_any : {A : Type 0} (test : A → Bool) (xs : List A) → ((x : A) → Memᴰ x xs → test x ≡ false) → any test xs ≡ false
unfolding any
false_any test [] h = refl
false_any test (z ∷ zs) h = or_from (test z) (any test zs) (h z (Memᴰ.head refl)) (false_any test zs (λ x i. h x (Memᴰ.tail i)))

pub any_some : {A : Type 0} (test : A → Bool) (xs : List A) → any test xs ≡ true → (x : A) × Memᴰ x xs × (test x ≡ true)
unfolding any
any_some test [] e = absurd (false≢true e)
any_some test (z ∷ zs) e = elim (or_cases (test z) (any test zs) e) [ inl h ↦ (z, Memᴰ.head refl, h) | inr h ↦ let q = any_some test zs h in (q.0, Memᴰ.tail q.1, q.2) ]

pub some_any : {A : Type 0} (test : A → Bool) (xs : List A) (x : A) → Memᴰ x xs → test x ≡ true → any test xs ≡ true
unfolding any
some_any test [] x i e = elim i [ ]
some_any test (z ∷ zs) x i e =
    elim (Memᴰ.cases_cons i) [ inl q ↦ or_left (test z) (any test zs) (ap test (sym q) ∙ e) | inr j ↦ or_right (test z) (any test zs) (some_any test zs x j e) ]

-- what the relation says of its second side holds of all in the second list
pub along_each : {R : Resolution → Resolution → Type 0} (P : Resolution → Type 0) → ((u : Unit) (o : Order) (v w : Tri) (d e : Bool) → R (it u o v d) (it u o w e) → P (it u o w e)) → {xs ys : List Resolution} → Along R xs ys → (y : Resolution) → Memᴰ y ys → P y
along_each P f none y i = elim i [ ]
along_each P f (more u o {v} {w} {d} {e} {ys = ys} h a) y i = go (along_each P f a y) (Memᴰ.cases_cons i)
  where
    go : (Memᴰ y ys → P y) → (y ≡ it u o w e) ⊎ Memᴰ y ys → P y
    go r (inl q) = subst P (sym q) (f u o v w d e h)
    go r (inr j) = r j

-- what is said of unit and order alone is the same of both lists
pub along_same : {A : Type 0} {R : Resolution → Resolution → Type 0} (f : Unit → Order → A) {xs ys : List Resolution} → Along R xs ys → map (λ x. f x.unit x.order) xs ≡ map (λ x. f x.unit x.order) ys
along_same f none = refl
along_same f (more u o h a) = ap (λ r. f u o ∷ r) (along_same f a)
