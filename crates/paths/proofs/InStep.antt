-- A walk over a list, in step with a table made of it: what each turn takes, where it ends, and what a test over both comes to. Assumes nothing.
use Rattle.std.proofs.Common.{◌≡◌, ℕ, zero, suc, ◌+◌, ◌<◌, Bool, ◌||◌, List, [], ◌∷◌, map, length, get_or, drop, None, Some, Option, Iter, sym, refl, ap, ◌∙◌, subst, arith}
use Rattle.std.specs.Iterator.{Yields}
use Rattle.std.specs.List.{zip, list_any}
use Rattle.std.proofs.lemmas.List.{drop_more}
use Rattle.std.specs.Borrow.{Bor}
use Rattle.std.specs.declared.iter.Zip.{Zip}
use Rattle.std.specs.Iterator.Adapters.{zip_first, zip_second}
use Rattle.std.specs.Slice.Iter.{iter_rest}
use Rattle.std.proofs.iter.Yields.{fronts}
use Rattle.std.proofs.lemmas.Iterator.{YieldsList, YieldsList-from_slice, YieldsList-from_zip, zips}
use Rattle.std.proofs.lemmas.Iterator.Consumers.{YieldsList-turn, YieldsList-end}
use Rattle.values.specs.Fold.{any}

-- the pair taken after n others
pub record Step {A B : Type 0} (make : A → B) (xs : List A) (n : ℕ) (x : A) (y : B) : Type 0 where
  pub left : n < length xs
  pub here : x ≡ get_or xs n x
  pub rest : drop n xs ≡ x ∷ drop (n + 1) xs
  pub made : y ≡ make x

module _ {A B : Type 0} (make : A → B) where
  long : (xs : List A) → length (zip xs (map make xs)) ≡ length xs
  long [] = refl
  long (x ∷ xs) = ap suc (long xs)

  there : (xs : List A) (n : ℕ) (p : A × B) → n < length xs → (p ≡ get_or (zip xs (map make xs)) n p) → (p.0 ≡ get_or xs n p.0) × (p.1 ≡ make p.0)
  there [] n p h e = absurd (omega arith)
  there (x ∷ xs) zero p h e = (ap (λ q. q.0) e, ap (λ q. q.1) e ∙ ap (λ q. make q.0) (sym e))
  there (x ∷ xs) (suc n) p h e = there xs n p (omega arith) e

  -- a test of both is one of each element
  pub any_made : (test : A × B → Bool) (xs : List A) → list_any test (zip xs (map make xs)) ≡ any (λ x. test (x, make x)) xs
  unfolding any
  any_made test [] = refl
  any_made test (x ∷ xs) = ap (λ b. test (x, make x) || b) (any_made test xs)

  -- what is made of both is made of each element
  pub map_made : {C : Type 0} (change : A × B → C) (xs : List A) → map change (zip xs (map make xs)) ≡ map (λ x. change (x, make x)) xs
  map_made change [] = refl
  map_made change (x ∷ xs) = ap (λ l. change (x, make x) ∷ l) (map_made change xs)

  -- both slices from their first elements on
  module _ (xs : List A) (ys : List B) (table : ys ≡ map make xs) (s : Zip (Iter A) (Iter B)) (first : iter_rest (zip_first s) ≡ xs) (second : iter_rest (zip_second s) ≡ ys) where
    pub road : YieldsList {B = A × B} (zips fronts fronts) (λ p. (p.0.now, p.1.now)) s (zip xs (map make xs))
    road = subst (λ l. YieldsList {B = A × B} (zips fronts fronts) (λ p. (p.0.now, p.1.now)) s (zip xs l)) table (YieldsList-from_zip (YieldsList-from_slice xs first) (YieldsList-from_slice ys second))

    module _ (zs : List (Bor A × Bor B)) (t : Zip (Iter A) (Iter B)) (ran : Yields (zips fronts fronts) s zs t) (r : Option (Bor A × Bor B)) (u : Zip (Iter A) (Iter B)) where
      pub step_turn : (x : Bor A) (y : Bor B) → r ≡ Some (x, y) → zips fronts fronts t r u → Step make xs (length zs) x.now y.now
      step_turn x y is step =
          let turn = YieldsList-turn road zs t ran r u (x, y) is step in
          let left : length zs < length xs = subst (λ n. length zs < n) (long xs) turn.0 in
          let both = there xs (length zs) (x.now, y.now) left turn.1 in
          record { left = left; here = both.0; rest = drop_more xs (length zs) x.now left ∙ ap (λ z. z ∷ drop (length zs + 1) xs) (sym both.0); made = both.1 }

      pub step_end : r ≡ None → zips fronts fronts t r u → length zs ≡ length xs
      step_end is step = (YieldsList-end road zs t ran r u is step).1 ∙ long xs
