-- After the moves no two units stand in one region: one enters each, and who stays where another came is dislodged.
use Rattle.std.proofs.Common.{◌≡◌, ℕ, Bool, true, false, cond, not, ◌&&◌, eqb, List, [], ◌∷◌, map, sym, refl, ap, ◌∙◌, subst, inl, inr, arith}
use mathlib.Core.List.{Memᴰ}
use Rattle.std.proofs.lemmas.Bool.{true≢false, false≢true, eqb-true, and_parts, and_from, not-true, or_left, or_cases}
use Rattle.values.specs.Fold.{gather, any, is_in, pick, distinct}
use Rattle.values.specs.declared.tri.Tri.{Tri}
use Rattle.values.specs.declared.tri.Tri.TheVariants.{Yes}
use Rattle.values.specs.Tri.{not_tri, and_tri, is_yes, is_open}
use Rattle.board.specs.declared.order.Order.{Order}
use Rattle.board.specs.Board.{Board}
use Rattle.board.specs.Order.{goes_to, is_move, is_support, aim}
use Rattle.assignment.specs.declared.resolution.Resolution.{Resolution}
use Rattle.assignment.specs.Assignment.{entered, dislodged}
use Rattle.deciding.specs.Outcome.{outcome}
use Rattle.deciding_laws.specs.Assignments.{Consistent}
use Rattle.deciding_laws.specs.Dislodged.{came}
use Rattle.deciding_laws.specs.UnitsApart.{new_region, stays_on_board, OneToARegion, UnitsApart}
use Rattle.deciding_laws.proofs.Places.{spots, first_apart, rest_apart}
use Rattle.deciding_laws.proofs.Folds.{some_or}
use Rattle.deciding_laws.proofs.Consistent.{outcome-apart}
use Rattle.deciding_laws.proofs.OneEntersEach.{one_enters}
use Rattle.deciding_laws.proofs.DislodgedByOne.{outcome_is_consistent}

goes_where : (o : Order) (v : Tri) → (is_move o && is_yes v) ≡ true → (goes_to (aim o) o && is_yes v) ≡ true
goes_where o v e = grind arith

dislodged_if : (b : Bool) (v t : Tri) → (b && is_yes v) ≡ false → (b ≡ true → is_open v ≡ false) → t ≡ Yes → is_yes (cond b (and_tri (not_tri v) t) t) ≡ true
dislodged_if b v t n k e = grind arith

-- picked and then changed is picked with both changes: for lists of units, of which this gives the regions
pub pick-map : {A B C : Type 0} (test : A → Bool) (f : A → B) (g : B → C) (xs : List A) → map g (pick test f xs) ≡ pick test (λ x. g (f x)) xs
unfolding gather
pick-map test f g [] = refl
pick-map test f g (x ∷ xs) = elim (test x) as (λ b. map g (cond b (f x ∷ pick test f xs) (pick test f xs)) ≡ cond b (g (f x) ∷ pick test (λ y. g (f y)) xs) (pick test (λ y. g (f y)) xs)) [ true ↦ ap (λ r. g (f x) ∷ r) (pick-map test f g xs) | false ↦ pick-map test f g xs ]

pick_in : (test : Resolution → Bool) (f : Resolution → ℕ) (r : ℕ) (ys : List Resolution) → is_in r (pick test f ys) ≡ true → (y : Resolution) × Memᴰ y ys × (test y ≡ true) × (r ≡ f y)
unfolding any gather
pick_in test f r [] e = absurd (false≢true e)
pick_in test f r (y ∷ ys) e = go (test y) refl e (pick_in test f r ys)
  where
    later : (z : Resolution) × Memᴰ z ys × (test z ≡ true) × (r ≡ f z) → (z : Resolution) × Memᴰ z (y ∷ ys) × (test z ≡ true) × (r ≡ f z)
    later q = (q.0, Memᴰ.tail q.1, q.2, q.3)

    go : (b : Bool) → test y ≡ b → is_in r (cond b (f y ∷ pick test f ys) (pick test f ys)) ≡ true → (is_in r (pick test f ys) ≡ true → (z : Resolution) × Memᴰ z ys × (test z ≡ true) × (r ≡ f z)) → (z : Resolution) × Memᴰ z (y ∷ ys) × (test z ≡ true) × (r ≡ f z)
    go true q e k = elim (or_cases (eqb r (f y)) (is_in r (pick test f ys)) e) [ inl h ↦ (y, Memᴰ.head refl, q, eqb-true _ _ h) | inr h ↦ later (k h) ]
    go false q e k = later (k e)

-- where two that pass and give the same number stood in one region, no number comes twice
pick-distinct : (test : Resolution → Bool) (f : Resolution → ℕ) (ys : List Resolution) → distinct (spots ys) ≡ true →
    ((x y : Resolution) → Memᴰ x ys → Memᴰ y ys → test x ≡ true → test y ≡ true → f x ≡ f y → x.unit.region ≡ y.unit.region) → distinct (pick test f ys) ≡ true
unfolding distinct gather
pick-distinct test f [] d h = refl
pick-distinct test f (y ∷ ys) d h = go (test y) refl (pick-distinct test f ys (rest_apart y ys d) (λ a b i j. h a b (Memᴰ.tail i) (Memᴰ.tail j)))
  where
    new : test y ≡ true → (b : Bool) → is_in (f y) (pick test f ys) ≡ b → not b ≡ true
    new t false e = refl
    new t true e = let q = pick_in test f (f y) ys e in absurd (first_apart y ys d q.0 q.1 (sym (h y q.0 (Memᴰ.head refl) (Memᴰ.tail q.1) t q.2 q.3)))

    go : (b : Bool) → test y ≡ b → distinct (pick test f ys) ≡ true → distinct (cond b (f y ∷ pick test f ys) (pick test f ys)) ≡ true
    go true t k = and_from (not (is_in (f y) (pick test f ys))) (distinct (pick test f ys)) (new t _ refl) k
    go false t k = k

module _ (m : Board) (zs : List Resolution) (consistent : Consistent m zs) (sole : distinct (spots zs) ≡ true) where
  -- who stays where another came is dislodged
  driven_out : (x y : Resolution) → Memᴰ x zs → Memᴰ y zs → (is_move y.order && is_yes y.value) ≡ false → (is_move x.order && is_yes x.value) ≡ true → aim x.order ≡ y.unit.region → stays_on_board zs y ≡ true → ⊥
  driven_out x y i j n c e s =
      let g = subst (λ r. came r x ≡ true) e (goes_where x.order x.value c) in
      let h = and_parts (goes_to y.unit.region x.order) (is_yes x.value) g in
      let t = some_or (λ z. goes_to y.unit.region z.order) (λ z. z.value) zs x i h.0 (yes_is x.value h.1) in
      true≢false (sym (dislodged_if (is_move y.order) y.value (entered y.unit.region zs) n (λ k. consistent.known y j (or_left (is_move y.order) (is_support y.order) k)) t) ∙ not-true (is_yes (dislodged y zs)) s)
    where
      yes_is : (t : Tri) → is_yes t ≡ true → t ≡ Yes
      yes_is t e = grind arith

  pub end-apart : (x y : Resolution) → Memᴰ x zs → Memᴰ y zs → stays_on_board zs x ≡ true → stays_on_board zs y ≡ true → new_region x ≡ new_region y → x.unit.region ≡ y.unit.region
  end-apart x y i j p q e = go (is_move x.order && is_yes x.value) refl (is_move y.order && is_yes y.value) refl e
    where
      go : (b : Bool) → (is_move x.order && is_yes x.value) ≡ b → (c : Bool) → (is_move y.order && is_yes y.value) ≡ c → cond b (aim x.order) x.unit.region ≡ cond c (aim y.order) y.unit.region → x.unit.region ≡ y.unit.region
      go true f true g h = one_enters m zs consistent sole (aim x.order) x y i (goes_where x.order x.value f) j (subst (λ r. came r y ≡ true) (sym h) (goes_where y.order y.value g))
      go true f false g h = absurd (driven_out x y i j g f h q)
      go false f true g h = absurd (driven_out y x j i f g (sym h) p)
      go false f false g h = h

  pub one_to_a_region : OneToARegion zs
  one_to_a_region = record { regions = pick-distinct (stays_on_board zs) new_region zs sole end-apart; each = end-apart }

pub units_apart : UnitsApart
units_apart m os a = one_to_a_region m (outcome m os) (outcome_is_consistent m os a) (outcome-apart m os a)
