-- Where no two units stand in one region, who is asked for in a region is who stands there.
use Rattle.std.proofs.Common.{◌≡◌, ℕ, Bool, true, false, cond, not, ◌||◌, eqb, ◌⊎◌, List, [], ◌∷◌, map, Some, None, Option, sym, refl, ap, ◌∙◌, inl, inr, arith}
use mathlib.Core.List.Memᴰ
use mathlib.Core.List.{Memᴰ}
use Rattle.std.proofs.lemmas.Bool.{true≢false, eq-eqb, eqb-true, ne_eqb, and_parts, not-true, or_left, or_right}
use Rattle.values.specs.Fold.{gather, any, is_in, distinct}
use Rattle.assignment.specs.declared.resolution.Resolution.{Resolution}
use Rattle.assignment.specs.Assignment.{who}

abbrev pub spots : List Resolution → List ℕ
spots xs = map (λ x. x.unit.region) xs

pub spots_in : (x : Resolution) (zs : List Resolution) → Memᴰ x zs → is_in x.unit.region (spots zs) ≡ true
unfolding any
spots_in x [] i = elim i [ ]
spots_in x (z ∷ zs) i = go (spots_in x zs) (Memᴰ.cases_cons i)
  where
    go : (Memᴰ x zs → is_in x.unit.region (spots zs) ≡ true) → (x ≡ z) ⊎ Memᴰ x zs → (eqb x.unit.region z.unit.region || is_in x.unit.region (spots zs)) ≡ true
    go r (inl e) = or_left (eqb x.unit.region z.unit.region) (is_in x.unit.region (spots zs)) (eq-eqb _ _ (ap (λ y. y.unit.region) e))
    go r (inr j) = or_right (eqb x.unit.region z.unit.region) (is_in x.unit.region (spots zs)) (r j)

-- whoever stands behind the first stands elsewhere
pub first_apart : (z : Resolution) (zs : List Resolution) → distinct (spots (z ∷ zs)) ≡ true → (x : Resolution) → Memᴰ x zs → x.unit.region ≡ z.unit.region → ⊥
unfolding distinct
first_apart z zs d x j e =
    true≢false (sym (spots_in x zs j) ∙ (ap (λ q. is_in q (spots zs)) e ∙ not-true (is_in z.unit.region (spots zs)) (and_parts (not (is_in z.unit.region (spots zs))) (distinct (spots zs)) d).0))

pub rest_apart : (z : Resolution) (zs : List Resolution) → distinct (spots (z ∷ zs)) ≡ true → distinct (spots zs) ≡ true
unfolding distinct
rest_apart z zs d = (and_parts (not (is_in z.unit.region (spots zs))) (distinct (spots zs)) d).1

pub who_there : (zs : List Resolution) → distinct (spots zs) ≡ true → (x : Resolution) → Memᴰ x zs → who x.unit.region zs ≡ Some x
unfolding gather
who_there [] d x i = elim i [ ]
who_there (z ∷ zs) d x i = go (who_there zs (rest_apart z zs d) x) (Memᴰ.cases_cons i)
  where
    go : (Memᴰ x zs → who x.unit.region zs ≡ Some x) → (x ≡ z) ⊎ Memᴰ x zs → cond (eqb x.unit.region z.unit.region) (Some z) (who x.unit.region zs) ≡ Some x
    go r (inl e) = let k : eqb x.unit.region z.unit.region ≡ true = eq-eqb _ _ (ap (λ y. y.unit.region) e) in rw k (ap Some (sym e))
    go r (inr j) = let k : eqb x.unit.region z.unit.region ≡ false = ne_eqb _ _ (first_apart z zs d x j) in rw k (r j)

some_is : {x y : Resolution} → ◌≡◌ {A = Option Resolution} (Some x) (Some y) → x ≡ y
some_is e = cc

none_some : {y : Resolution} → ◌≡◌ {A = Option Resolution} None (Some y) → ⊥
none_some e = let z : ◌≡◌ {A = ℕ} 0 1 = cc in absurd (omega arith)

-- who is found in a region is one of all, and stands there
pub who_in : (r : ℕ) (zs : List Resolution) (y : Resolution) → who r zs ≡ Some y → Memᴰ y zs × (y.unit.region ≡ r)
unfolding gather
who_in r [] y e = absurd (none_some e)
who_in r (x ∷ xs) y e = go (eqb r x.unit.region) refl e (who_in r xs y)
  where
    go : (b : Bool) → eqb r x.unit.region ≡ b → cond b (Some x) (who r xs) ≡ Some y → (who r xs ≡ Some y → Memᴰ y xs × (y.unit.region ≡ r)) → Memᴰ y (x ∷ xs) × (y.unit.region ≡ r)
    go true f p k = let q : x ≡ y = some_is p in (Memᴰ.head (sym q), sym (eqb-true r x.unit.region f ∙ ap (λ z. z.unit.region) q))
    go false f p k = let h = k p in (Memᴰ.tail h.0, h.1)
