-- And and or over a list, read one by one; and a list of one by what is in it.
use Rattle.std.proofs.Common.{◌≡◌, Bool, true, false, cond, ◌⊎◌, List, [], ◌∷◌, sym, refl, ap, ◌∙◌, subst, inl, inr, arith}
use mathlib.Core.List.Memᴰ
use mathlib.Core.List.{Memᴰ}
use Rattle.std.proofs.lemmas.Bool.{true≢false, false≢true}
use Rattle.values.specs.Fold.{gather, select, distinct}
use Rattle.values.specs.declared.tri.Tri.{Tri}
use Rattle.values.specs.declared.tri.Tri.TheVariants.{No, Yes}
use Rattle.values.specs.Tri.{and_tri, or_tri, is_yes, is_no}
use Rattle.assignment.specs.declared.resolution.Resolution.{Resolution}
use Rattle.deciding_laws.proofs.Along.{gather_keeps}
use Rattle.deciding_laws.proofs.Places.{spots, first_apart, rest_apart}

pub yes_and : (a b : Tri) → and_tri a b ≡ Yes → (a ≡ Yes) × (b ≡ Yes)
yes_and a b e = grind arith

pub open_and : (a b : Tri) → is_no (and_tri a b) ≡ false → (is_no a ≡ false) × (is_no b ≡ false)
open_and a b e = grind arith

yes_or : (a b : Tri) → or_tri a b ≡ Yes → (a ≡ Yes) ⊎ (b ≡ Yes)
yes_or a b e = grind arith

-- what an and has only if both parts have it, each has
and_each : {A : Type 0} (P : Tri → Type 0) → ((a b : Tri) → P (and_tri a b) → P a × P b) → (test : A → Bool) (f : A → Tri) (xs : List A) → P (gather test (λ x r. and_tri (f x) r) Yes xs) → (x : A) → Memᴰ x xs → test x ≡ true → P (f x)
unfolding gather
and_each P s test f [] e x i t = elim i [ ]
and_each P s test f (z ∷ zs) e x i t = go (test z) refl e (λ k j. and_each P s test f zs k x j t) (Memᴰ.cases_cons i)
  where
    rest : Tri
    rest = gather test (λ x r. and_tri (f x) r) Yes zs

    go : (b : Bool) → test z ≡ b → P (cond b (and_tri (f z) rest) rest) → (P rest → Memᴰ x zs → P (f x)) → (x ≡ z) ⊎ Memᴰ x zs → P (f x)
    go true q e r (inl p) = subst (λ y. P (f y)) (sym p) (s (f z) rest e).0
    go true q e r (inr j) = r (s (f z) rest e).1 j
    go false q e r (inl p) = absurd (true≢false (sym t ∙ (ap test p ∙ q)))
    go false q e r (inr j) = r e j

pub yes_each : {A : Type 0} (test : A → Bool) (f : A → Tri) (xs : List A) → gather test (λ x r. and_tri (f x) r) Yes xs ≡ Yes → (x : A) → Memᴰ x xs → test x ≡ true → f x ≡ Yes
yes_each = and_each (λ t. t ≡ Yes) yes_and

pub open_each : {A : Type 0} (test : A → Bool) (f : A → Tri) (xs : List A) → is_no (gather test (λ x r. and_tri (f x) r) Yes xs) ≡ false → (x : A) → Memᴰ x xs → test x ≡ true → is_no (f x) ≡ false
open_each = and_each (λ t. is_no t ≡ false) open_and

pub each_and : {A : Type 0} (test : A → Bool) (f : A → Tri) (xs : List A) → ((x : A) → Memᴰ x xs → test x ≡ true → f x ≡ Yes) → gather test (λ x r. and_tri (f x) r) Yes xs ≡ Yes
each_and test f xs h = gather_keeps (λ t. t ≡ Yes) test (λ x r. and_tri (f x) r) refl xs (λ x i t r e. and_yes (f x) r (h x i t) e)
  where
    and_yes : (a b : Tri) → a ≡ Yes → b ≡ Yes → and_tri a b ≡ Yes
    and_yes a b p q = grind arith

pub or_some : {A : Type 0} (test : A → Bool) (f : A → Tri) (xs : List A) → gather test (λ x r. or_tri (f x) r) No xs ≡ Yes → (x : A) × Memᴰ x xs × (test x ≡ true) × (f x ≡ Yes)
unfolding gather
or_some test f [] e = absurd (false≢true (ap is_yes e))
or_some {A = A} test f (z ∷ zs) e = go (test z) refl e (or_some test f zs)
  where
    rest : Tri
    rest = gather test (λ x r. or_tri (f x) r) No zs

    later : (x : A) × Memᴰ x zs × (test x ≡ true) × (f x ≡ Yes) → (x : A) × Memᴰ x (z ∷ zs) × (test x ≡ true) × (f x ≡ Yes)
    later q = (q.0, Memᴰ.tail q.1, q.2, q.3)

    go : (b : Bool) → test z ≡ b → cond b (or_tri (f z) rest) rest ≡ Yes → (rest ≡ Yes → (x : A) × Memᴰ x zs × (test x ≡ true) × (f x ≡ Yes)) → (x : A) × Memᴰ x (z ∷ zs) × (test x ≡ true) × (f x ≡ Yes)
    go true q e r = elim (yes_or (f z) rest e) [ inl p ↦ (z, Memᴰ.head refl, q, p) | inr p ↦ later (r p) ]
    go false q e r = later (r e)

pub some_or : {A : Type 0} (test : A → Bool) (f : A → Tri) (xs : List A) (x : A) → Memᴰ x xs → test x ≡ true → f x ≡ Yes → gather test (λ x r. or_tri (f x) r) No xs ≡ Yes
unfolding gather
some_or test f [] x i t e = elim i [ ]
some_or test f (z ∷ zs) x i t e =
    elim (Memᴰ.cases_cons i) [ inl q ↦ now (test z) (f z) _ (ap test (sym q) ∙ t) (ap f (sym q) ∙ e) | inr j ↦ later (test z) (f z) _ (some_or test f zs x j t e) ]
  where
    now : (b : Bool) (v r : Tri) → b ≡ true → v ≡ Yes → cond b (or_tri v r) r ≡ Yes
    now b v r p q = grind arith

    later : (b : Bool) (v r : Tri) → r ≡ Yes → cond b (or_tri v r) r ≡ Yes
    later b v r p = grind arith

pub select_none : {A : Type 0} (test : A → Bool) (xs : List A) → ((x : A) → Memᴰ x xs → test x ≡ true → ⊥) → select test xs ≡ []
unfolding gather
select_none test [] h = refl
select_none test (z ∷ zs) h = go (test z) refl (select_none test zs (λ y i. h y (Memᴰ.tail i)))
  where
    go : (b : Bool) → test z ≡ b → select test zs ≡ [] → cond b (z ∷ select test zs) (select test zs) ≡ []
    go true e k = absurd (h z (Memᴰ.head refl) e)
    go false e k = k

-- where units stand apart and all that pass stand in one region, one passes
pub select_one : (test : Resolution → Bool) (y : Resolution) → test y ≡ true → (zs : List Resolution) → distinct (spots zs) ≡ true → Memᴰ y zs →
    ((z : Resolution) → Memᴰ z zs → test z ≡ true → z.unit.region ≡ y.unit.region) → select test zs ≡ y ∷ []
unfolding gather
select_one test y c [] d i h = elim i [ ]
select_one test y c (z ∷ zs) d i h = go (λ j. select_one test y c zs (rest_apart z zs d) j (λ x k. h x (Memᴰ.tail k))) (test z) refl (Memᴰ.cases_cons i)
  where
    go : (Memᴰ y zs → select test zs ≡ y ∷ []) → (b : Bool) → test z ≡ b → (y ≡ z) ⊎ Memᴰ y zs → cond b (z ∷ select test zs) (select test zs) ≡ y ∷ []
    go k true e (inl q) =
        let n : select test zs ≡ [] = select_none test zs (λ x j f. first_apart z zs d x j (h x (Memᴰ.tail j) f ∙ ap (λ w. w.unit.region) q)) in
        rw n (ap (λ w. w ∷ []) (sym q))
    go k false e (inl q) = absurd (true≢false (sym c ∙ (ap test q ∙ e)))
    go k true e (inr j) = absurd (first_apart z zs d y j (sym (h z (Memᴰ.head refl) e)))
    go k false e (inr j) = k j
