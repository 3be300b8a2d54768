-- Three-valued answers that say whether something is so: and, or, not, greater, and all and some of a list.
use Rattle.std.proofs.Common.{◌≡◌, ℕ, ◌<◌, Bool, true, false, cond, ltb, leb, ◌⊎◌, List, [], ◌∷◌, sym, refl, ◌∙◌, subst, inl, inr, arith}
use mathlib.Core.List.Memᴰ
use mathlib.Core.List.{Memᴰ}
use Rattle.std.proofs.lemmas.Bool.{true≢false, false≢true, ltb-true, ltb-false, leb-true, leb-false}
use Rattle.values.specs.Fold.{gather}
use Rattle.values.specs.declared.tri.Tri.{Tri}
use Rattle.values.specs.declared.tri.Tri.TheVariants.{No, Open, Yes}
use Rattle.values.specs.Tri.{not_tri, and_tri, or_tri, sure, is_yes}
use Rattle.values.specs.Span.{exactly, greater}
use Rattle.deciding_laws.specs.PlainAgrees.{Tells, says_yes, says_no}

pub tells_map : {P Q : Type 0} {t : Tri} → (P → Q) → (Q → P) → Tells P t → Tells Q t
tells_map f g (says_yes p) = says_yes (f p)
tells_map f g (says_no n) = says_no (λ q. n (g q))

pub tells_not : {P : Type 0} {t : Tri} → Tells P t → Tells (P → ⊥) (not_tri t)
tells_not (says_yes p) = says_no (λ n. n p)
tells_not (says_no n) = says_yes n

pub tells_and : {P Q : Type 0} {s t : Tri} → Tells P s → Tells Q t → Tells (P × Q) (and_tri s t)
tells_and (says_yes p) (says_yes q) = says_yes (p, q)
tells_and (says_yes p) (says_no n) = says_no (λ b. n b.1)
tells_and (says_no n) q = says_no (λ b. n b.0)

pub tells_or : {P Q : Type 0} {s t : Tri} → Tells P s → Tells Q t → Tells (P ⊎ Q) (or_tri s t)
tells_or (says_yes p) q = says_yes (inl p)
tells_or (says_no n) (says_yes q) = says_yes (inr q)
tells_or {P} {Q} (says_no n) (says_no k) = says_no neither
  where
    neither : P ⊎ Q → ⊥
    neither (inl p) = n p
    neither (inr q) = k q

pub yes_sure : (b : Bool) → is_yes (sure b) ≡ b
yes_sure b = grind arith

pub tells_sure : (b : Bool) → Tells (b ≡ true) (sure b)
tells_sure true = says_yes refl
tells_sure false = says_no (λ e. false≢true e)

pub tells_greater : (a b : ℕ) → Tells (b < a) (greater (exactly a) (exactly b))
tells_greater a b = go (ltb b a) refl (leb a b) refl
  where
    go : (s : Bool) → ltb b a ≡ s → (t : Bool) → leb a b ≡ t → Tells (b < a) (cond s Yes (cond t No Open))
    go true e t f = says_yes (ltb-true b a e)
    go false e true f = says_no (λ l. absurd (omega (arith, leb-true a b f)))
    go false e false f = absurd (omega (arith, ltb-false b a e, leb-false a b f))

pub tells_all : {A : Type 0} (P : A → Type 0) (test : A → Bool) (f : A → Tri) (xs : List A) → ((x : A) → Tells (P x) (f x)) → Tells ((x : A) → Memᴰ x xs → test x ≡ true → P x) (gather test (λ x r. and_tri (f x) r) Yes xs)
unfolding gather
tells_all P test f [] h = says_yes (λ x i. elim i [ ])
tells_all {A = A} P test f (z ∷ zs) h = go (test z) refl (tells_all P test f zs h)
  where
    All : List A → Type 0
    All ys = (x : A) → Memᴰ x ys → test x ≡ true → P x

    both : (test z ≡ true → P z) → All zs → All (z ∷ zs)
    both p r x i = elim (Memᴰ.cases_cons i) [ inl e ↦ subst (λ y. test y ≡ true → P y) (sym e) p | inr j ↦ r x j ]

    go : (b : Bool) → test z ≡ b → {t : Tri} → Tells (All zs) t → Tells (All (z ∷ zs)) (cond b (and_tri (f z) t) t)
    go true e r = tells_map (λ q. both (λ _. q.0) q.1) (λ q. (q z (Memᴰ.head refl) e, λ x i. q x (Memᴰ.tail i))) (tells_and (h z) r)
    go false e r = tells_map (both (λ k. absurd (true≢false (sym k ∙ e)))) (λ q x i. q x (Memᴰ.tail i)) r

pub tells_some : {A : Type 0} (P : A → Type 0) (test : A → Bool) (f : A → Tri) (xs : List A) → ((x : A) → Tells (P x) (f x)) → Tells ((x : A) × Memᴰ x xs × (test x ≡ true) × P x) (gather test (λ x r. or_tri (f x) r) No xs)
unfolding gather
tells_some P test f [] h = says_no (λ q. elim q.1 [ ])
tells_some {A = A} P test f (z ∷ zs) h = go (test z) refl (tells_some P test f zs h)
  where
    One : List A → Type 0
    One ys = (x : A) × Memᴰ x ys × (test x ≡ true) × P x

    later : One zs → One (z ∷ zs)
    later q = (q.0, Memᴰ.tail q.1, q.2, q.3)

    put : test z ≡ true → P z ⊎ One zs → One (z ∷ zs)
    put e (inl p) = (z, Memᴰ.head refl, e, p)
    put e (inr q) = later q

    take : One (z ∷ zs) → (test z ≡ true × P z) ⊎ One zs
    take q = elim (Memᴰ.cases_cons q.1) [ inl e ↦ inl (subst (λ y. test y ≡ true × P y) e (q.2, q.3)) | inr j ↦ inr (q.0, j, q.2, q.3) ]

    drop : (test z ≡ true × P z) ⊎ One zs → P z ⊎ One zs
    drop (inl p) = inl p.1
    drop (inr q) = inr q

    rest : test z ≡ false → (test z ≡ true × P z) ⊎ One zs → One zs
    rest e (inl p) = absurd (true≢false (sym p.0 ∙ e))
    rest e (inr q) = q

    go : (b : Bool) → test z ≡ b → {t : Tri} → Tells (One zs) t → Tells (One (z ∷ zs)) (cond b (or_tri (f z) t) t)
    go true e r = tells_map (put e) (λ q. drop (take q)) (tells_or (h z) r)
    go false e r = tells_map later (λ q. rest e (take q)) r
