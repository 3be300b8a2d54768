-- Winter, one power's turn: who goes, who comes, and that units stay apart where they can be.
use Rattle.std.proofs.Common.{◌≡◌, ℕ, zero, suc, ◌+◌, ◌-◌, ◌<◌, ◌≤◌, Bool, true, false, cond, not, ◌&&◌, eqb, ltb, ◌⊎◌, ◌↔◌, List, [], ◌∷◌, length, get_or, take, Some, None, Option, sym, refl, ap, ◌∙◌, subst, inl, inr, arith}
use mathlib.Core.List.Memᴰ
use mathlib.Core.List.{Memᴰ}
use Rattle.std.proofs.lemmas.List.{take_all, length-take-le}
use Rattle.std.proofs.lemmas.Bool.{true≢false, false≢true, cases_Bool, ltb-true, ltb-false, lt-ltb, eqb-true, eq-eqb, ne_eqb, and_parts, and_from, not-true, not_from_false}
use Rattle.values.specs.Fold.{any, those, is_in}
use Rattle.board.specs.Board.{Board, can_stand, region_at, powers}
use Rattle.board.specs.declared.unit.Unit.{Unit}
use Rattle.game.specs.declared.text.Text.{Text}
use Rattle.game.specs.declared.text.Text.TheVariants.{Command, Build, Disband}
use Rattle.game.specs.declared.text.Written.{Written}
use Rattle.game.specs.Texts.{text_for}
use Rattle.game.specs.Retreats.{occupied, is_just}
use Rattle.game.specs.Winter.{of_power, units_of, centres_of, has_unit, is_disband, struck, disband_order, disbanded, build_in, may_build, build_order, built, winter_of}
use Rattle.year_laws.specs.Words.{OnlyText}
use Rattle.year_laws.specs.WinterLaw.{Struck, GoesFirst}
use Rattle.year_laws.proofs.Members.{any_at, any_of, any_none, in_list, list_in, select-at, select_of, each_at, each_of, those-at, those_of}
use Rattle.year_laws.proofs.Sorted.{Part, part_mem, part_select, part_take, Sorted, none, more, sorted_part, sorted_append, sorted_weaken, sorted_each, sorted_those, take-before, Apart, apart_same, apart_rising}
use Rattle.year_laws.proofs.Number.{number_append, number_same, number_none, number-all, number-pick, number_halves, number_keys}
use Rattle.year_laws.proofs.LawfulFacts.{region_of, Fine, fine_part, fine_append, stands_placed, can_on_board}
use Rattle.year_laws.proofs.Texts.{just_some, some_just, text_only, only_text}
use Rattle.year_laws.proofs.Retreats.{occupied_none, none_occupied}

-- ---- texts
disband_is : (x : Option Text) → is_disband x ≡ true → x ≡ Some Disband
disband_is None e = absurd (false≢true e)
disband_is (Some (Command o)) e = absurd (false≢true e)
disband_is (Some (Build f)) e = absurd (false≢true e)
disband_is (Some Disband) e = refl

struck_text : (p : ℕ) (ws : List Written) (r : ℕ) → struck p ws r ≡ true → Struck ws p r
struck_text p ws r e = text_only ws p r Disband (disband_is (text_for p r ws) e)

text_struck : (p : ℕ) (ws : List Written) (r : ℕ) → Struck ws p r → struck p ws r ≡ true
text_struck p ws r o = ap is_disband (only_text ws p r Disband o)

build_is : (x : Option Text) (f : Bool) → build_in x ≡ Some f → x ≡ Some (Build f)
build_is None f e = let z : ◌≡◌ {A = ℕ} 0 1 = cc in absurd (omega arith)
build_is (Some (Command o)) f e = let z : ◌≡◌ {A = ℕ} 0 1 = cc in absurd (omega arith)
build_is (Some (Build h)) f e = let z : h ≡ f = cc in ap (λ b. Some (Build b)) z
build_is (Some Disband) f e = let z : ◌≡◌ {A = ℕ} 0 1 = cc in absurd (omega arith)

-- ---- the order in which regions go
abbrev Earlier : List Written → ℕ → ℕ → ℕ → Type 0
Earlier ws p r s = ((struck p ws r ≡ true) × (struck p ws s ≡ false)) ⊎ ((struck p ws r ≡ struck p ws s) × (r < s))

earlier_first : (ws : List Written) (p r s : ℕ) → Earlier ws p r s → GoesFirst ws p r s
earlier_first ws p r s (inl q) = GoesFirst.struck (struck_text p ws r q.0) (λ o. true≢false (sym (text_struck p ws s o) ∙ q.1))
earlier_first ws p r s (inr q) = GoesFirst.lower (λ o. struck_text p ws s (sym q.0 ∙ text_struck p ws r o), λ o. struck_text p ws r (q.0 ∙ text_struck p ws s o)) q.1

earlier_apart : (ws : List Written) (p r s : ℕ) → Earlier ws p r s → r ≡ s → ⊥
earlier_apart ws p r s (inl q) e = true≢false (sym q.0 ∙ (ap (struck p ws) e ∙ q.1))
earlier_apart ws p r s (inr q) e = omega (arith, q.1)

take-length : {A : Type 0} (k : ℕ) (xs : List A) → length (take k xs) ≤ k
take-length zero xs = omega arith
take-length (suc k) [] = omega arith
take-length (suc k) (x ∷ xs) = omega (arith, take-length k xs)

abbrev LowerFirst : Unit → Unit → Type 0
LowerFirst u v = u.region < v.region

-- whether an element is in a part is known by its key
part_or : {A : Type 0} (f : A → ℕ) {xs ys : List A} → Apart f xs → Part ys xs → (x : A) → Memᴰ x xs → Memᴰ x ys ⊎ (Memᴰ x ys → ⊥)
part_or f {xs} {ys} s t x i = go (any (λ y. eqb (f x) (f y)) ys) refl
  where
    go : (b : Bool) → any (λ y. eqb (f x) (f y)) ys ≡ b → Memᴰ x ys ⊎ (Memᴰ x ys → ⊥)
    go true e = let q = any_at (λ y. eqb (f x) (f y)) ys e in inl (Memᴰ.cast (apart_same f s x q.0 i (part_mem t q.0 q.1) (eqb-true _ _ q.2)) q.1)
    go false e = inr (λ j. any_none (λ y. eqb (f x) (f y)) ys e x j (eq-eqb _ _ refl))

module _ (m : Board) (owners : List (Option ℕ)) (ws : List Written) (p : ℕ) (us : List Unit) (f : Fine m us) where
  -- ---- disbands
  abbrev first : ℕ → Bool
  first r = has_unit p us r && struck p ws r

  abbrev rest : ℕ → Bool
  rest r = has_unit p us r && not (struck p ws r)

  order_sorted : Sorted (Earlier ws p) (disband_order m p ws us)
  order_sorted =
      sorted_append
      (sorted_weaken (λ r s i j l. inr (hit r i ∙ sym (hit s j), l)) (sorted_those (length m.regions) first))
      (sorted_weaken (λ r s i j l. inr (miss r i ∙ sym (miss s j), l)) (sorted_those (length m.regions) rest))
      (λ r s i j. inl (hit r i, miss s j))
    where
      hit : (r : ℕ) → Memᴰ r (those (length m.regions) first) → struck p ws r ≡ true
      hit r i = (and_parts (has_unit p us r) (struck p ws r) (those-at (length m.regions) first r i).1).1

      miss : (r : ℕ) → Memᴰ r (those (length m.regions) rest) → struck p ws r ≡ false
      miss r i = not-true _ (and_parts (has_unit p us r) (not (struck p ws r)) (those-at (length m.regions) rest r i).1).1

  order_apart : Apart (λ r. r) (disband_order m p ws us)
  order_apart = sorted_weaken (λ r s i j q. earlier_apart ws p r s q) order_sorted

  has_unit_lem : (r : ℕ) → has_unit p us r ≡ true → (u : Unit) × Memᴰ u us × (of_power p u ≡ true) × (u.region ≡ r)
  has_unit_lem r e =
      let q = any_at (λ u. of_power p u && eqb r u.region) us e in
      let a = and_parts (of_power p q.0) (eqb r q.0.region) q.2 in
      (q.0, q.1, a.0, sym (eqb-true _ _ a.1))

  order_unit : (r : ℕ) → Memᴰ r (disband_order m p ws us) → (u : Unit) × Memᴰ u us × (of_power p u ≡ true) × (u.region ≡ r)
  order_unit r i = has_unit_lem r (elim (Memᴰ.append_cases (those (length m.regions) first) i) [ inl j ↦ (and_parts (has_unit p us r) (struck p ws r) (those-at (length m.regions) first r j).1).0 | inr j ↦ (and_parts (has_unit p us r) (not (struck p ws r)) (those-at (length m.regions) rest r j).1).0 ])

  unit_order : (u : Unit) → Memᴰ u us → of_power p u ≡ true → Memᴰ u.region (disband_order m p ws us)
  unit_order u i e = elim (cases_Bool (struck p ws u.region)) [ inl s ↦ Memᴰ.append_left (those (length m.regions) rest) (those_of (length m.regions) first u.region small (and_from (has_unit p us u.region) (struck p ws u.region) has s)) | inr s ↦ Memᴰ.append_right (those (length m.regions) first) (those_of (length m.regions) rest u.region small (and_from (has_unit p us u.region) (not (struck p ws u.region)) has (not_from_false _ s))) ]
    where
      small : u.region < length m.regions
      small = (stands_placed m u (f.stand u i)).region

      has : has_unit p us u.region ≡ true
      has = any_of (λ v. of_power p v && eqb u.region v.region) us u i (and_from (of_power p u) (eqb u.region u.region) e (eq-eqb _ _ refl))

  order_length : length (disband_order m p ws us) ≡ units_of p us
  order_length =
      sym (number_keys region_of (of_power p) us f.apart (disband_order m p ws us) order_apart order_unit)
      ∙ number_same (λ u. of_power p u && is_in u.region (disband_order m p ws us)) (of_power p) us (λ u i. same (of_power p u) (is_in u.region (disband_order m p ws us)) (λ e. in_list u.region (disband_order m p ws us) (unit_order u i e)))
    where
      same : (a b : Bool) → (a ≡ true → b ≡ true) → (a && b) ≡ a
      same true b h = h refl
      same false b h = refl

  module _ (k : ℕ) where
    abbrev goes : Unit → Bool
    goes u = of_power p u && is_in u.region (take k (disband_order m p ws us))

    pub disbanded_part : Part (disbanded m p ws k us) us
    disbanded_part = part_select (λ u. not (goes u)) us

    pub disbanded_others : (u : Unit) → (u.power ≡ p → ⊥) → Memᴰ u us → Memᴰ u (disbanded m p ws k us)
    disbanded_others u n i = select_of (λ v. not (goes v)) us u i (ap (λ b. not (b && is_in u.region (take k (disband_order m p ws us)))) (ne_eqb _ _ (λ e. n (sym e))))

    pub disbanded_count : k ≤ units_of p us → units_of p (disbanded m p ws k us) + k ≡ units_of p us
    disbanded_count h =
        let a = number-pick (of_power p) (λ u. not (goes u)) (λ u. u) us in
        let b = number_halves (of_power p) goes us in
        let c = number_same (λ u. goes u && of_power p u) goes us (λ u i. again (of_power p u) (is_in u.region (take k (disband_order m p ws us)))) in
        let d = number_keys region_of (of_power p) us f.apart (take k (disband_order m p ws us)) (sorted_part (part_take k (disband_order m p ws us)) order_apart) (λ r i. order_unit r (part_mem (part_take k (disband_order m p ws us)) r i)) in
        let e = length-take-le k (disband_order m p ws us) (omega (arith, order_length)) in
        omega (arith, a, b, c, d, e)
      where
        again : (x y : Bool) → ((x && y) && x) ≡ (x && y)
        again x y = grind arith

    pub disbanded_order : (u v : Unit) → of_power p u ≡ true → of_power p v ≡ true → Memᴰ u us → (Memᴰ u (disbanded m p ws k us) → ⊥) → Memᴰ v (disbanded m p ws k us) → GoesFirst ws p u.region v.region
    disbanded_order u v a b i n j =
        earlier_first ws p u.region v.region (take-before k order_sorted u.region v.region (list_in u.region (take k (disband_order m p ws us)) out) (unit_order v kept.0 b) (λ q. true≢false (sym (and_from (of_power p v) (is_in v.region (take k (disband_order m p ws us))) b (in_list v.region (take k (disband_order m p ws us)) q)) ∙ not-true _ kept.1)))
      where
        kept : Memᴰ v us × (not (goes v) ≡ true)
        kept = select-at (λ w. not (goes w)) us v j

        out : is_in u.region (take k (disband_order m p ws us)) ≡ true
        out = elim (cases_Bool (goes u)) [ inl e ↦ (and_parts (of_power p u) (is_in u.region (take k (disband_order m p ws us))) e).1 | inr e ↦ absurd (n (select_of (λ w. not (goes w)) us u i (not_from_false _ e))) ]

  -- ---- builds
  pub record Allowed (u : Unit) : Type 0 where
    pub power : u.power ≡ p
    pub wrote : OnlyText ws p u.region (Build u.fleet)
    pub can : can_stand m u.fleet u.region ≡ true
    pub home : (region_at m u.region).home ≡ Some p
    pub owned : get_or owners u.region None ≡ Some p
    pub empty : (v : Unit) → Memᴰ v us → v.region ≡ u.region → ⊥

  abbrev give : ℕ → List Unit
  give r = may_build m p owners us r (build_in (text_for p r ws))

  abbrev may : Bool → ℕ → Bool
  may fleet r = can_stand m fleet r && (is_just p (region_at m r).home && (is_just p (get_or owners r None) && not (occupied r us)))

  may_allowed : (fleet : Bool) (r : ℕ) → text_for p r ws ≡ Some (Build fleet) → may fleet r ≡ true → Allowed (record { power = p; region = r; fleet = fleet })
  may_allowed fleet r t e =
      let a = and_parts (can_stand m fleet r) (is_just p (region_at m r).home && (is_just p (get_or owners r None) && not (occupied r us))) e in
      let b = and_parts (is_just p (region_at m r).home) (is_just p (get_or owners r None) && not (occupied r us)) a.1 in
      let c = and_parts (is_just p (get_or owners r None)) (not (occupied r us)) b.1 in
      record { power = refl; wrote = text_only ws p r (Build fleet) t; can = a.0; home = just_some p (region_at m r).home b.0; owned = just_some p (get_or owners r None) c.0; empty = occupied_none r us (not-true _ c.1) }

  give_allowed : (r : ℕ) (u : Unit) → Memᴰ u (give r) → (u.region ≡ r) × Allowed u
  give_allowed r u i = go (build_in (text_for p r ws)) refl i
    where
      now : (fleet : Bool) → text_for p r ws ≡ Some (Build fleet) → (b : Bool) → may fleet r ≡ b → Memᴰ u (cond b (record { power = p; region = r; fleet = fleet } ∷ []) []) → (u.region ≡ r) × Allowed u
      now fleet t true e i = let q = Memᴰ.eq_of_singleton i in (ap (λ v. v.region) q, subst (λ v. Allowed v) (sym q) (may_allowed fleet r t e))
      now fleet t false e i = elim i [ ]

      go : (o : Option Bool) → build_in (text_for p r ws) ≡ o → Memᴰ u (may_build m p owners us r o) → (u.region ≡ r) × Allowed u
      go None e i = elim i [ ]
      go (Some fleet) e i = now fleet (build_is (text_for p r ws) fleet e) (may fleet r) refl i

  allowed_give : (u : Unit) → Allowed u → Memᴰ u (give u.region)
  allowed_give u a = subst (λ x. Memᴰ u (may_build m p owners us u.region (build_in x))) (sym (only_text ws p u.region (Build u.fleet) a.wrote)) (subst (λ b. Memᴰ u (cond b (record { power = p; region = u.region; fleet = u.fleet } ∷ []) [])) (sym ok) (Memᴰ.head same))
    where
      same : ◌≡◌ {A = Unit} u (record { power = p; region = u.region; fleet = u.fleet })
      same = λ i. record { power = a.power i; region = u.region; fleet = u.fleet }

      ok : may u.fleet u.region ≡ true
      ok =
          and_from (can_stand m u.fleet u.region) (is_just p (region_at m u.region).home && (is_just p (get_or owners u.region None) && not (occupied u.region us))) a.can
          (and_from (is_just p (region_at m u.region).home) (is_just p (get_or owners u.region None) && not (occupied u.region us)) (some_just p _ a.home)
          (and_from (is_just p (get_or owners u.region None)) (not (occupied u.region us)) (some_just p _ a.owned) (not_from_false _ (none_occupied u.region us a.empty))))

  pub order_allowed : (u : Unit) → Memᴰ u (build_order m p owners ws us) → Allowed u
  order_allowed u i = let q = each_at give (those (length m.regions) (λ r. true)) u i in (give_allowed q.0 u q.2).1

  pub allowed_order : (u : Unit) → Allowed u → Memᴰ u (build_order m p owners ws us)
  allowed_order u a = each_of give (those (length m.regions) (λ r. true)) u u.region (those_of (length m.regions) (λ r. true) u.region (ltb-true _ _ (can_on_board m u.fleet u.region a.can)) refl) (allowed_give u a)

  build_sorted : Sorted LowerFirst (build_order m p owners ws us)
  build_sorted = sorted_each give single (λ r s u v l i j. omega (arith, (give_allowed r u i).0, (give_allowed s v j).0)) (those (length m.regions) (λ r. true)) (sorted_those (length m.regions) (λ r. true))
    where
      single : (r : ℕ) → Sorted LowerFirst (give r)
      single r = go (build_in (text_for p r ws))
        where
          now : (fleet : Bool) (b : Bool) → Sorted LowerFirst (cond b (record { power = p; region = r; fleet = fleet } ∷ []) [])
          now fleet true = more (λ y i. elim i [ ]) none
          now fleet false = none

          go : (o : Option Bool) → Sorted LowerFirst (may_build m p owners us r o)
          go None = none
          go (Some fleet) = now fleet (may fleet r)

  module _ (k : ℕ) where
    new_allowed : (u : Unit) → Memᴰ u (take k (build_order m p owners ws us)) → Allowed u
    new_allowed u i = order_allowed u (part_mem (part_take k (build_order m p owners ws us)) u i)

    pub built_old : (u : Unit) → Memᴰ u us → Memᴰ u (built m p owners ws k us)
    built_old u i = Memᴰ.append_left (take k (build_order m p owners ws us)) i

    pub built-at : (u : Unit) → Memᴰ u (built m p owners ws k us) → Memᴰ u us ⊎ Allowed u
    built-at u i = elim (Memᴰ.append_cases us i) [ inl j ↦ inl j | inr j ↦ inr (new_allowed u j) ]

    pub built_count : units_of p (built m p owners ws k us) ≡ units_of p us + length (take k (build_order m p owners ws us))
    built_count = number_append (of_power p) us (take k (build_order m p owners ws us)) ∙ ap (λ n. units_of p us + n) (number-all (of_power p) (take k (build_order m p owners ws us)) (λ u i. eq-eqb _ _ (sym (new_allowed u i).power)))

    pub built_few : units_of p (built m p owners ws k us) ≤ units_of p us + k
    built_few = omega (arith, built_count, take-length k (build_order m p owners ws us))

    new_or : (u : Unit) → Allowed u → Memᴰ u (take k (build_order m p owners ws us)) ⊎ (Memᴰ u (take k (build_order m p owners ws us)) → ⊥)
    new_or u a = part_or region_of (apart_rising region_of build_sorted) (part_take k (build_order m p owners ws us)) u (allowed_order u a)

    built_new : (u : Unit) → Allowed u → Memᴰ u (built m p owners ws k us) → Memᴰ u (take k (build_order m p owners ws us))
    built_new u a i = elim (Memᴰ.append_cases us i) [ inl j ↦ absurd (a.empty u j refl) | inr j ↦ j ]

    pub built_order : (u v : Unit) → Allowed u → Allowed v → u.region < v.region → Memᴰ v (built m p owners ws k us) → Memᴰ u (built m p owners ws k us)
    built_order u v a b l i = elim (new_or u a) [ inl j ↦ Memᴰ.append_right us j | inr n ↦ (let q = take-before k build_sorted v u (built_new v b i) (allowed_order u a) n in absurd (omega arith)) ]

    pub built-full : (u : Unit) → Allowed u → (Memᴰ u (built m p owners ws k us) → ⊥) → units_of p (built m p owners ws k us) ≡ units_of p us + k
    built-full u a n = elim (cases_Bool (ltb k (length (build_order m p owners ws us)))) [ inl e ↦ omega (arith, built_count, length-take-le k (build_order m p owners ws us) (omega (arith, ltb-true _ _ e))) | inr e ↦ absurd (n (Memᴰ.append_right us (subst (λ vs. Memᴰ u vs) (sym (take_all k (build_order m p owners ws us) (ltb-false _ _ e))) (allowed_order u a)))) ]

    pub built_fine : p < powers → Fine m (built m p owners ws k us)
    built_fine h =
        fine_append us (take k (build_order m p owners ws us)) f
        (record { apart = sorted_part (part_take k (build_order m p owners ws us)) (apart_rising region_of build_sorted); stand = λ u i. (let a = new_allowed u i in and_from (can_stand m u.fleet u.region) (ltb u.power powers) a.can (ap (λ q. ltb q powers) a.power ∙ lt-ltb _ _ h)) })
        (λ u v i j e. (new_allowed v j).empty u i e)

  -- ---- either of the two
  pub winter_of_fine : p < powers → Fine m (winter_of m owners ws p us)
  winter_of_fine h = go (ltb (centres_of p owners) (units_of p us))
    where
      go : (b : Bool) → Fine m (cond b (disbanded m p ws (units_of p us - centres_of p owners) us) (built m p owners ws (centres_of p owners - units_of p us) us))
      go true = fine_part (disbanded_part (units_of p us - centres_of p owners)) f
      go false = built_fine (centres_of p owners - units_of p us) h

  -- units of other powers stay as they are
  pub winter_of_others : (u : Unit) → (u.power ≡ p → ⊥) → Memᴰ u us ↔ Memᴰ u (winter_of m owners ws p us)
  winter_of_others u n = go (ltb (centres_of p owners) (units_of p us))
    where
      go : (b : Bool) → Memᴰ u us ↔ Memᴰ u (cond b (disbanded m p ws (units_of p us - centres_of p owners) us) (built m p owners ws (centres_of p owners - units_of p us) us))
      go true = (disbanded_others (units_of p us - centres_of p owners) u n, part_mem (disbanded_part (units_of p us - centres_of p owners)) u)
      go false = (built_old (centres_of p owners - units_of p us) u, λ i. elim (built-at (centres_of p owners - units_of p us) u i) [ inl j ↦ j | inr a ↦ absurd (n a.power) ])

  pub winter_of_others_count : (s : ℕ) → (s ≡ p → ⊥) → units_of s (winter_of m owners ws p us) ≡ units_of s us
  winter_of_others_count s n = go (ltb (centres_of p owners) (units_of p us))
    where
      stays : (k : ℕ) (u : Unit) (b : Bool) → eqb s u.power ≡ b → (not (goes k u) && b) ≡ b
      stays k u true e = and_from (not (goes k u)) true (ap (λ b. not (b && is_in u.region (take k (disband_order m p ws us)))) (ne_eqb _ _ (λ q. n (eqb-true _ _ e ∙ sym q)))) refl
      stays k u false e = grind arith

      fewer : (k : ℕ) → units_of s (disbanded m p ws k us) ≡ units_of s us
      fewer k = number-pick (of_power s) (λ u. not (goes k u)) (λ u. u) us ∙ number_same (λ u. not (goes k u) && of_power s u) (of_power s) us (λ u i. stays k u (of_power s u) refl)

      more_of : (k : ℕ) → units_of s (built m p owners ws k us) ≡ units_of s us
      more_of k = omega (arith, number_append (of_power s) us (take k (build_order m p owners ws us)), number_none (of_power s) (take k (build_order m p owners ws us)) (λ u i e. n (eqb-true _ _ e ∙ (new_allowed k u i).power)))

      go : (b : Bool) → units_of s (cond b (disbanded m p ws (units_of p us - centres_of p owners) us) (built m p owners ws (centres_of p owners - units_of p us) us)) ≡ units_of s us
      go true = fewer (units_of p us - centres_of p owners)
      go false = more_of (centres_of p owners - units_of p us)
