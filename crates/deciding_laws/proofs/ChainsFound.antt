-- As many floods as units find every fleet that a chain reaches: each flood that reaches anybody new reaches one more.
use Rattle.std.proofs.Common.{◌≡◌, ℕ, zero, suc, ◌+◌, ◌<◌, ◌≤◌, Bool, true, false, cond, ◌&&◌, ◌||◌, ◌⊎◌, List, [], ◌∷◌, length, sym, refl, ap, ◌∙◌, subst, inl, inr, arith}
use mathlib.Core.List.Memᴰ
use mathlib.Core.List.{Memᴰ}
use Rattle.std.proofs.lemmas.Bool.{true≢false, false≢true, and_parts, and_from, or_left, or_right, or_cases}
use Rattle.values.specs.Fold.{gather, any, number}
use Rattle.geography.specs.Links.{linked}
use Rattle.board.specs.Board.{Board}
use Rattle.board.specs.Order.{convoys}
use Rattle.assignment.specs.declared.resolution.Resolution.{Resolution}
use Rattle.paths.specs.Paths.{touches, carrier, reached, flood, chain}
use Rattle.deciding_laws.proofs.Along.{gather_keeps}
use Rattle.deciding_laws.proofs.Members.{any_some, some_any}

number_le : {A : Type 0} (p q : A → Bool) (xs : List A) → ((x : A) → Memᴰ x xs → p x ≡ true → q x ≡ true) → number p xs ≤ number q xs
unfolding gather
number_le p q [] h = omega arith
number_le p q (x ∷ xs) h = go (p x) (q x) (h x (Memᴰ.head refl)) (number_le p q xs (λ y i. h y (Memᴰ.tail i)))
  where
    go : (b c : Bool) → (b ≡ true → c ≡ true) → number p xs ≤ number q xs → cond b (suc (number p xs)) (number p xs) ≤ cond c (suc (number q xs)) (number q xs)
    go true true i l = omega arith
    go true false i l = absurd (false≢true (i refl))
    go false true i l = omega arith
    go false false i l = l

number-all : {A : Type 0} (p : A → Bool) (xs : List A) → length xs ≤ number p xs → (x : A) → Memᴰ x xs → p x ≡ true
unfolding gather
number-all p [] l x i = elim i [ ]
number-all {A = A} p (z ∷ zs) l x i = go (p z) refl l (number-all p zs) (Memᴰ.cases_cons i)
  where
    few : (ys : List A) → number p ys ≤ length ys
    few [] = omega arith
    few (y ∷ ys) = elim (p y) as (λ b. cond b (suc (number p ys)) (number p ys) ≤ suc (length ys)) [ true ↦ omega (arith, few ys) | false ↦ omega (arith, few ys) ]

    go : (b : Bool) → p z ≡ b → suc (length zs) ≤ cond b (suc (number p zs)) (number p zs) → (length zs ≤ number p zs → (y : A) → Memᴰ y zs → p y ≡ true) → (x ≡ z) ⊎ Memᴰ x zs → p x ≡ true
    go true e l r (inl q) = ap p q ∙ e
    go true e l r (inr j) = r (omega arith) x j
    go false e l r c = absurd (omega (arith, few zs))

-- p passes whoever q passes, or q passes more of them
number_grows : {A : Type 0} (p q : A → Bool) (xs : List A) → ((x : A) → Memᴰ x xs → p x ≡ true → q x ≡ true) → ((x : A) → Memᴰ x xs → q x ≡ true → p x ≡ true) ⊎ (number p xs < number q xs)
unfolding gather
number_grows p q [] h = inl (λ x i. elim i [ ])
number_grows {A = A} p q (x ∷ xs) h = go (p x) refl (q x) refl (number_grows p q xs (λ y i. h y (Memᴰ.tail i)))
  where
    le : number p xs ≤ number q xs
    le = number_le p q xs (λ y i. h y (Memᴰ.tail i))

    both : ((y : A) → Memᴰ y xs → q y ≡ true → p y ≡ true) → (q x ≡ true → p x ≡ true) → (y : A) → Memᴰ y (x ∷ xs) → q y ≡ true → p y ≡ true
    both r f y i = elim (Memᴰ.cases_cons i) [ inl e ↦ subst (λ z. q z ≡ true → p z ≡ true) (sym e) f | inr j ↦ r y j ]

    go : (b : Bool) → p x ≡ b → (c : Bool) → q x ≡ c → ((y : A) → Memᴰ y xs → q y ≡ true → p y ≡ true) ⊎ (number p xs < number q xs) → ((y : A) → Memᴰ y (x ∷ xs) → q y ≡ true → p y ≡ true) ⊎ (cond b (suc (number p xs)) (number p xs) < cond c (suc (number q xs)) (number q xs))
    go true e true f (inl r) = inl (both r (λ _. e))
    go true e true f (inr l) = inr (omega arith)
    go true e false f r = absurd (true≢false (sym (h x (Memᴰ.head refl) e) ∙ f))
    go false e true f r = inr (omega (arith, le))
    go false e false f (inl r) = inl (both r (λ k. absurd (true≢false (sym k ∙ f))))
    go false e false f (inr l) = inr l

module _ (m : Board) (counts : Resolution → Bool) (f t : ℕ) (xs : List Resolution) where
  -- whoever is beside one of qs
  Beside : List ℕ → ℕ → Type 0
  Beside qs r = (w : Resolution) × Memᴰ w xs × (carrier m counts f t qs w ≡ true) × (linked r w.unit.region m.sail ≡ true)

  -- what is joined to the reached is joined to what was reached before, or to a fleet beside that
  touches-reached : (r : ℕ) (qs : List ℕ) → touches m r (reached m counts f t qs xs) ≡ true → (touches m r qs ≡ true) ⊎ Beside qs r
  unfolding any Beside
  touches-reached r qs =
      gather_keeps (λ ps. touches m r ps ≡ true → (touches m r qs ≡ true) ⊎ Beside qs r) (carrier m counts f t qs) (λ x ps. x.unit.region ∷ ps) inl xs
      (λ x i c ps k e. elim (or_cases (linked r x.unit.region m.sail) (touches m r ps) e) [ inl l ↦ inr (x, i, c, l) | inr h ↦ k h ])

  reached_keeps : (r : ℕ) (qs : List ℕ) → touches m r qs ≡ true → touches m r (reached m counts f t qs xs) ≡ true
  unfolding any
  reached_keeps r qs h = gather_keeps (λ ps. touches m r ps ≡ true) (carrier m counts f t qs) (λ x ps. x.unit.region ∷ ps) h xs (λ x i c ps k. or_right (linked r x.unit.region m.sail) (touches m r ps) k)

  reached_adds : (r : ℕ) (qs : List ℕ) (w : Resolution) → Memᴰ w xs → carrier m counts f t qs w ≡ true → linked r w.unit.region m.sail ≡ true → touches m r (reached m counts f t qs xs) ≡ true
  unfolding any gather
  reached_adds r qs w i c l = part xs i
    where
      part : (ys : List Resolution) → Memᴰ w ys → touches m r (reached m counts f t qs ys) ≡ true
      part [] j = elim j [ ]
      part (y ∷ ys) j = go (part ys) (carrier m counts f t qs y) refl (Memᴰ.cases_cons j)
        where
          go : (Memᴰ w ys → touches m r (reached m counts f t qs ys) ≡ true) → (b : Bool) → carrier m counts f t qs y ≡ b → (w ≡ y) ⊎ Memᴰ w ys → touches m r (cond b (y.unit.region ∷ reached m counts f t qs ys) (reached m counts f t qs ys)) ≡ true
          go k true e (inl q) = or_left (linked r y.unit.region m.sail) (touches m r (reached m counts f t qs ys)) (subst (λ z. linked r z.unit.region m.sail ≡ true) q l)
          go k true e (inr j) = or_right (linked r y.unit.region m.sail) (touches m r (reached m counts f t qs ys)) (k j)
          go k false e (inl q) = absurd (true≢false (sym c ∙ (ap (carrier m counts f t qs) q ∙ e)))
          go k false e (inr j) = k j

  -- a fleet counts, and lies beside what is reached
  abbrev pub carries : Resolution → Bool
  carries w = convoys f t w.order && counts w

  carrier_parts : (qs : List ℕ) (w : Resolution) → carrier m counts f t qs w ≡ true → (carries w ≡ true) × (touches m w.unit.region qs ≡ true)
  carrier_parts qs w e = and_parts (carries w) (touches m w.unit.region qs) e

  carrier_from : (qs : List ℕ) (w : Resolution) → carries w ≡ true → touches m w.unit.region qs ≡ true → carrier m counts f t qs w ≡ true
  carrier_from qs w e h = and_from (carries w) (touches m w.unit.region qs) e h

  -- a further flood reaches nobody new
  record Closed (qs : List ℕ) : Type 0 where
    nobody_new : (w : Resolution) → Memᴰ w xs → carrier m counts f t (reached m counts f t qs xs) w ≡ true → carrier m counts f t qs w ≡ true

  closed_step : (qs : List ℕ) → Closed qs → Closed (reached m counts f t qs xs)
  unfolding Beside
  closed_step qs k = record { nobody_new = λ w i c. let h = carrier_parts (reached m counts f t (reached m counts f t qs xs) xs) w c in carrier_from (reached m counts f t qs xs) w h.0 (go w (touches-reached w.unit.region (reached m counts f t qs xs) h.1)) }
    where
      go : (w : Resolution) → (touches m w.unit.region (reached m counts f t qs xs) ≡ true) ⊎ Beside (reached m counts f t qs xs) w.unit.region → touches m w.unit.region (reached m counts f t qs xs) ≡ true
      go w (inl h) = h
      go w (inr b) = reached_adds w.unit.region qs b.0 b.1 (k.nobody_new b.0 b.1 b.2) b.3

  closed_flood : (n : ℕ) (qs : List ℕ) → Closed qs → Closed (flood n m counts f t xs qs)
  unfolding flood
  closed_flood zero qs k = k
  closed_flood (suc n) qs k = closed_flood n (reached m counts f t qs xs) (closed_step qs k)

  flood_closed : (n : ℕ) (qs : List ℕ) → length xs ≤ n + number (carrier m counts f t qs) xs → Closed (flood n m counts f t xs qs)
  unfolding flood
  flood_closed zero qs l = record { nobody_new = λ w i _. number-all (carrier m counts f t qs) xs (omega arith) w i }
  flood_closed (suc n) qs l =
      go (λ k. flood_closed n (reached m counts f t qs xs) k)
      (number_grows (carrier m counts f t qs) (carrier m counts f t (reached m counts f t qs xs)) xs (λ w i c. let h = carrier_parts qs w c in carrier_from (reached m counts f t qs xs) w h.0 (reached_keeps w.unit.region qs h.1)))
    where
      go : (length xs ≤ n + number (carrier m counts f t (reached m counts f t qs xs)) xs → Closed (flood n m counts f t xs (reached m counts f t qs xs))) →
          ((w : Resolution) → Memᴰ w xs → carrier m counts f t (reached m counts f t qs xs) w ≡ true → carrier m counts f t qs w ≡ true) ⊎ (number (carrier m counts f t qs) xs < number (carrier m counts f t (reached m counts f t qs xs)) xs) →
          Closed (flood n m counts f t xs (reached m counts f t qs xs))
      go k (inl h) = closed_flood n (reached m counts f t qs xs) (closed_step qs (record { nobody_new = h }))
      go k (inr l') = k (omega arith)

  flood_keeps : (n : ℕ) (r : ℕ) (qs : List ℕ) → touches m r qs ≡ true → touches m r (flood n m counts f t xs qs) ≡ true
  unfolding flood
  flood_keeps zero r qs h = h
  flood_keeps (suc n) r qs h = flood_keeps n r (reached m counts f t qs xs) (reached_keeps r qs h)

  -- ---- what is reached at the end, from f
  pub all-reached : List ℕ
  all-reached = flood (length xs) m counts f t xs (f ∷ [])

  or_false : (b : Bool) → (b || false) ≡ true → b ≡ true
  or_false b e = grind arith

  pub reached_first : (w : Resolution) → carries w ≡ true → linked w.unit.region f m.sail ≡ true → carrier m counts f t all-reached w ≡ true
  unfolding all-reached any
  reached_first w c l = carrier_from all-reached w c (flood_keeps (length xs) w.unit.region (f ∷ []) (or_left (linked w.unit.region f m.sail) false l))

  pub reached-next : (y w : Resolution) → Memᴰ y xs → carrier m counts f t all-reached y ≡ true → Memᴰ w xs → carries w ≡ true → linked w.unit.region y.unit.region m.sail ≡ true → carrier m counts f t all-reached w ≡ true
  unfolding all-reached
  reached-next y w i c j d l =
      (flood_closed (length xs) (f ∷ []) (omega arith)).nobody_new w j (carrier_from (reached m counts f t all-reached xs) w d (reached_adds w.unit.region all-reached y i c l))

  pub chain_of : (w : Resolution) → Memᴰ w xs → carrier m counts f t all-reached w ≡ true → linked w.unit.region t m.sail ≡ true → chain m counts f t xs ≡ true
  unfolding all-reached
  chain_of w i c l = some_any (λ x. carrier m counts f t all-reached x && linked x.unit.region t m.sail) xs w i (and_from (carrier m counts f t all-reached w) (linked w.unit.region t m.sail) c l)

  -- what holds beside f, and beside every fleet where it holds, holds beside all that is reached
  module _ (P : ℕ → Type 0) (beside-f : (r : ℕ) → linked r f m.sail ≡ true → P r) (beside : (w : Resolution) → Memᴰ w xs → carries w ≡ true → P w.unit.region → (r : ℕ) → linked r w.unit.region m.sail ≡ true → P r) where
    flood-only : (n : ℕ) (qs : List ℕ) → ((r : ℕ) → touches m r qs ≡ true → P r) → (r : ℕ) → touches m r (flood n m counts f t xs qs) ≡ true → P r
    unfolding flood Beside
    flood-only zero qs h = h
    flood-only (suc n) qs h = flood-only n (reached m counts f t qs xs) (λ r e. go r (touches-reached r qs e))
      where
        go : (r : ℕ) → (touches m r qs ≡ true) ⊎ Beside qs r → P r
        go r (inl e) = h r e
        go r (inr b) = let c = carrier_parts qs b.0 b.2 in beside b.0 b.1 c.0 (h b.0.unit.region c.1) r b.3

    pub chain_is : chain m counts f t xs ≡ true → (w : Resolution) × Memᴰ w xs × (carries w ≡ true) × P w.unit.region × (linked w.unit.region t m.sail ≡ true)
    unfolding all-reached any
    chain_is e =
        let q = any_some (λ x. carrier m counts f t all-reached x && linked x.unit.region t m.sail) xs e in
        let h = and_parts (carrier m counts f t all-reached q.0) (linked q.0.unit.region t m.sail) q.2 in
        let c = carrier_parts all-reached q.0 h.0 in
        (q.0, q.1, c.0, flood-only (length xs) (f ∷ []) (λ r k. beside-f r (or_false (linked r f m.sail) k)) q.0.unit.region c.1, h.1)
