-- The tables of a lookup: how they are filled, and what they say. Assumes nothing.
use Rattle.std.proofs.Common.{◌≡◌, ℕ, suc, ◌+◌, ◌-◌, ◌<◌, Bool, true, false, cond, eqb, List, [], ◌∷◌, ◌++◌, length, get_or, drop, set, replicate, Vec, vec_items, map, Some, None, Option, sym, refl, ap, ◌∙◌, subst, append-nil, arith}
use Rattle.std.proofs.lemmas.List.{drop_all, get_or_default, get_or-set_same, get_or-set_other, get_or-replicate}
use Rattle.std.proofs.lemmas.Bool.{eqb-true, eqb-false}
use Rattle.std.specs.Option.{option_map}
use Rattle.std.specs.List.{AllByRecursion}
use Rattle.values.specs.Fold.{gather}
use Rattle.assignment.specs.declared.resolution.Resolution.{Resolution}
use Rattle.assignment.specs.Assignment.{nobody, who}
use Rattle.assignment.specs.Places.{place_from, acts, aimed_from, places_aimed, Placed, Aimed, Inside}
use Rattle.board.specs.Order.{aim}
use Rattle.assignment.specs.declared.lookup.Lookup.{Lookup}
use Rattle.assignment.specs.Lookup.{Indexed}
use Rattle.assignment.proofs.Numbered.{NumberedTurn}

-- who stands in the place that the table gives
at_place : (xs ys : List Resolution) (i r : ℕ) → ((k : ℕ) → get_or ys k nobody ≡ get_or xs (i + k) nobody) → option_map (λ k. get_or xs k nobody) (place_from i r ys) ≡ who r ys
unfolding gather
at_place xs [] i r e = refl
at_place xs (x ∷ ys) i r e = go (at_place xs ys (i + 1) r (λ k. let f : i + suc k ≡ i + 1 + k = omega arith in e (suc k) ∙ ap (λ n. get_or xs n nobody) f)) (eqb r x.unit.region)
  where
    go : option_map (λ k. get_or xs k nobody) (place_from (i + 1) r ys) ≡ who r ys → (b : Bool) → option_map (λ k. get_or xs k nobody) (cond b (Some i) (place_from (i + 1) r ys)) ≡ cond b (Some x) (who r ys)
    go below true = let f : i + 0 ≡ i = omega arith in ap Some (sym (e 0 ∙ ap (λ n. get_or xs n nobody) f))
    go below false = below

pub placed_at : (table : List (Option ℕ)) (xs : List Resolution) (r : ℕ) → Placed table xs → r < 256 → option_map (λ k. get_or xs k nobody) (get_or table r None) ≡ who r xs
unfolding Placed
placed_at table xs r h l = ap (option_map (λ k. get_or xs k nobody)) (h r l) ∙ at_place xs xs 0 r (λ k. let e : k ≡ 0 + k = omega arith in ap (λ n. get_or xs n nobody) e)

place_low : (i r k : ℕ) (xs : List Resolution) → place_from i r xs ≡ Some k → k < i + length xs
place_low i r k [] e = grind arith
place_low i r k (x ∷ xs) e = go (place_low (i + 1) r k xs) (eqb r x.unit.region) e
  where
    go : (place_from (i + 1) r xs ≡ Some k → k < i + 1 + length xs) → (b : Bool) → cond b (Some i) (place_from (i + 1) r xs) ≡ Some k → k < i + suc (length xs)
    go below true e = grind arith
    go below false e = let l = below e in omega arith

placed_within : (table : List (Option ℕ)) (xs : List Resolution) (r k : ℕ) → Placed table xs → r < 256 → get_or table r None ≡ Some k → k < length xs
unfolding Placed
placed_within table xs r k h l e = let low = place_low 0 r k xs (sym (h r l) ∙ e) in omega arith

-- what a read of the table of places says
module _ (l : Lookup) (xs : List Resolution) (h : Indexed l xs) (r : ℕ) (small : r < 256) (o : Option ℕ) (read : o ≡ get_or (vec_items l.place) r o) where
  entry : o ≡ get_or (vec_items l.place) r None
  entry = read ∙ get_or_default (vec_items l.place) r o None (omega (arith, l.place.ok.0, l.places))

  pub who_read : option_map (λ k. get_or xs k nobody) o ≡ who r xs
  who_read = ap (option_map (λ k. get_or xs k nobody)) entry ∙ placed_at (vec_items l.place) xs r h.placed small

  pub within_read : (k : ℕ) → o ≡ Some k → k < length xs
  within_read k e = placed_within (vec_items l.place) xs r k h.placed small (sym entry ∙ e)

pub aimed_table : (table : List (List ℕ)) (xs : List Resolution) (r : ℕ) → Aimed table xs → r < 256 → get_or table r [] ≡ places_aimed r xs
unfolding Aimed
aimed_table table xs r h l = h r l

pub inside_at : (xs : List Resolution) (i : ℕ) → Inside xs → (get_or xs i nobody).unit.region < 128
unfolding Inside
inside_at xs i h = h i

-- the tables of what stands in the list from place i on
pub record Filled (i : ℕ) (place : List (Option ℕ)) (aimed : List (List ℕ)) (rest : List Resolution) : Type 0 where
  pub places : (r : ℕ) → r < 256 → get_or place r None ≡ place_from i r rest
  pub aims : (r : ℕ) → r < 256 → get_or aimed r [] ≡ aimed_from i r rest

pub filled_none : (place : List (Option ℕ)) (aimed : List (List ℕ)) (xs : List Resolution) → place ≡ replicate 256 None → aimed ≡ replicate 256 [] → Filled (length xs - 0) place aimed (drop (length xs - 0) xs)
unfolding aimed_from
filled_none place aimed xs p a =
    subst (λ ys. Filled (length xs - 0) place aimed ys) (sym (drop_all (length xs - 0) xs (omega arith)))
    (record { places = λ r l. ap (λ t. get_or t r None) p ∙ get_or-replicate 256 r None None l; aims = λ r l. ap (λ t. get_or t r []) a ∙ get_or-replicate 256 r [] [] l })

-- a table of empty lists, made of clones of one
pub all_empty : {X Z : Type 0} (P : Vec X Z → Type 0) → ((v : Vec X Z) → P v → vec_items v ≡ []) → (vs : List (Vec X Z)) → AllByRecursion P vs → map vec_items vs ≡ replicate (length vs) []
all_empty P empty [] all = refl
all_empty P empty (v ∷ vs) all = λ i. empty v all.0 i ∷ all_empty P empty vs all.1 i

-- one turn of filling them from the last order to the first
module _ (place : List (Option ℕ)) (aimed : List (List ℕ)) (all : List Resolution) (n m i : ℕ) (x : Resolution) (turn : NumberedTurn all n i x) (more : m ≡ n + 1) (small : x.unit.region < 256) (wide : length place ≡ 256) (before : Filled (length all - n) place aimed (drop (length all - n) all)) where
  abbrev rest : List Resolution
  rest = drop (length all - n) all

  f : Filled (i + 1) place aimed rest
  f = let e : length all - n ≡ i + 1 = omega (arith, turn.left, turn.place) in subst (λ k. Filled k place aimed rest) e before

  onward : (place : List (Option ℕ)) (aimed : List (List ℕ)) → Filled i place aimed (x ∷ rest) → Filled (length all - m) place aimed (drop (length all - m) all)
  onward place aimed h =
      let e : i ≡ length all - m = omega (arith, turn.place, more) in
      subst (λ k. Filled k place aimed (drop k all)) e (subst (Filled i place aimed) (sym turn.rest) h)

  placed_more : (r : ℕ) → r < 256 → get_or (set place x.unit.region (Some i)) r None ≡ place_from i r (x ∷ rest)
  placed_more r l = go (eqb r x.unit.region) refl
    where
      go : (t : Bool) → eqb r x.unit.region ≡ t → get_or (set place x.unit.region (Some i)) r None ≡ cond t (Some i) (place_from (i + 1) r rest)
      go true e = ap (λ n. get_or (set place x.unit.region (Some i)) n None) (eqb-true r x.unit.region e) ∙ get_or-set_same place x.unit.region (Some i) None (omega arith)
      go false e = get_or-set_other place x.unit.region r (Some i) None (eqb-false r x.unit.region e) ∙ f.places r l

  pub filled_pass : acts x.order ≡ false → Filled (length all - m) (set place x.unit.region (Some i)) aimed (drop (length all - m) all)
  unfolding aimed_from
  filled_pass a = onward _ aimed (record { places = placed_more; aims = λ r l. f.aims r l ∙ sym (rw a (append-nil (aimed_from (i + 1) r rest))) })

  pub filled_more : acts x.order ≡ true → length aimed ≡ 256 → aim x.order < 256 → Filled (length all - m) (set place x.unit.region (Some i)) (set aimed (aim x.order) (get_or aimed (aim x.order) [] ++ i ∷ [])) (drop (length all - m) all)
  unfolding aimed_from
  filled_more a long near = onward _ new (record { places = placed_more; aims = λ r l. go r l (eqb r (aim x.order)) refl })
    where
      new : List (List ℕ)
      new = set aimed (aim x.order) (get_or aimed (aim x.order) [] ++ i ∷ [])

      go : (r : ℕ) → r < 256 → (t : Bool) → eqb r (aim x.order) ≡ t → get_or new r [] ≡ aimed_from i r (x ∷ rest)
      go r l true e = rw (a, e) (ap (λ n. get_or new n []) (eqb-true r (aim x.order) e) ∙ get_or-set_same aimed (aim x.order) _ [] (omega arith) ∙ ap (λ n. get_or aimed n [] ++ i ∷ []) (sym (eqb-true r (aim x.order) e)) ∙ ap (λ ys. ys ++ i ∷ []) (f.aims r l))
      go r l false e = rw (a, e) (get_or-set_other aimed (aim x.order) r _ [] (eqb-false r (aim x.order) e) ∙ f.aims r l ∙ sym (append-nil (aimed_from (i + 1) r rest)))

pub filled_all : (place : List (Option ℕ)) (aimed : List (List ℕ)) (xs : List Resolution) (n : ℕ) → n ≡ length xs → Filled (length xs - n) place aimed (drop (length xs - n) xs) → Placed place xs × Aimed aimed xs
unfolding Placed Aimed
filled_all place aimed xs n e f = let z : length xs - n ≡ 0 = omega arith in let g = subst (λ k. Filled k place aimed (drop k xs)) z f in (g.places, g.aims)
