-- Floods over water: tests on sets, and a turn that adds nothing ends the flood. Assumes nothing.
use Rattle.std.proofs.Common.{◌≡◌, ℕ, zero, suc, ◌+◌, ◌-◌, ◌<◌, ◌≤◌, Bool, true, false, cond, not, ◌||◌, eqb, List, [], ◌∷◌, sym, refl, ap, ◌∙◌, ⊎_elim, arith}
use Rattle.assignment.specs.declared.resolution.Resolution.{Resolution}
use Rattle.board.specs.Order.{aim, is_convoyed}
use Rattle.board.specs.Board.{Board}
use Rattle.values.specs.Fold.{gather, any, is_in}
use Rattle.geography.specs.declared.region_set.RegionSet.{RegionSet}
use Rattle.geography.specs.RegionSet.{has}
use Rattle.geography.proofs.Bitwise.{same_test}
use Rattle.geography.specs.Links.{linked}
use Rattle.std.proofs.lemmas.Bool.{or_from, or_left, or_right, or_parts, or_cases, eq-eqb, eqb-true}
use Rattle.paths.specs.Paths.{touches, carrier, reached, flood, chain, surely_stays, may_stay, path}
use Rattle.values.specs.declared.tri.Tri.TheVariants.{No, Open, Yes}

-- the set of what lies beside r, for a list of regions
pub touches-any : (m : Board) (r : ℕ) (s : RegionSet) → ((b : ℕ) → has s b ≡ linked r b m.sail) → (rs : List ℕ) → any (has s) rs ≡ touches m r rs
unfolding any
touches-any m r s h [] = refl
touches-any m r s h (q ∷ qs) = λ i. h q i || touches-any m r s h qs i

abbrev pub Like : List ℕ → List ℕ → Type 0
Like rs ts = (q : ℕ) → is_in q rs ≡ is_in q ts

touches_none : (m : Board) (r : ℕ) (qs : List ℕ) → ((q : ℕ) → is_in q qs ≡ true → linked r q m.sail ≡ false) → touches m r qs ≡ false
unfolding any
touches_none m r [] h = refl
touches_none m r (q ∷ qs) h = or_from _ _ (h q (or_left _ _ (eq-eqb q q refl))) (touches_none m r qs (λ p e. h p (or_right _ _ e)))

touches_some : (m : Board) (r : ℕ) (qs : List ℕ) → touches m r qs ≡ false → (q : ℕ) → is_in q qs ≡ true → linked r q m.sail ≡ false
unfolding any
touches_some m r [] none q h = absurd (let z : ◌≡◌ {A = ℕ} 0 1 = cc in omega arith)
touches_some m r (p ∷ qs) none q h =
    ⊎_elim (λ e. rw (eqb-true q p e) (or_parts (linked r p m.sail) (touches m r qs) none).0) (λ e. touches_some m r qs (or_parts (linked r p m.sail) (touches m r qs) none).1 q e) (or_cases (eqb q p) (is_in q qs) h)

touches_like : (m : Board) (r : ℕ) (rs ts : List ℕ) → Like rs ts → touches m r rs ≡ touches m r ts
touches_like m r rs ts like =
    same_test _ _ (λ none. touches_none m r rs (λ q e. touches_some m r ts none q (sym (like q) ∙ e))) (λ none. touches_none m r ts (λ q e. touches_some m r rs none q (like q ∙ e)))

module _ (m : Board) (p : Resolution → Bool) (f t : ℕ) where
  reached_like : (rs ts : List ℕ) (xs : List Resolution) → Like rs ts → Like (reached m p f t rs xs) (reached m p f t ts xs)
  unfolding gather any
  reached_like rs ts [] like q = like q
  reached_like rs ts (x ∷ xs) like q = rw (touches_like m x.unit.region rs ts like) (step (carrier m p f t ts x) (reached_like rs ts xs like q))
    where
      step : (b : Bool) → is_in q (reached m p f t rs xs) ≡ is_in q (reached m p f t ts xs) → is_in q (cond b (x.unit.region ∷ reached m p f t rs xs) (reached m p f t rs xs)) ≡ is_in q (cond b (x.unit.region ∷ reached m p f t ts xs) (reached m p f t ts xs))
      step true e = ap (λ b. eqb q x.unit.region || b) e
      step false e = e

  flood_like : (n : ℕ) (xs : List Resolution) (rs ts : List ℕ) → Like rs ts → Like (flood n m p f t xs rs) (flood n m p f t xs ts)
  unfolding flood
  flood_like zero xs rs ts like = like
  flood_like (suc n) xs rs ts like = flood_like n xs _ _ (reached_like rs ts xs like)

  -- a round that adds nothing ends all flood
  pub flood_fixed : (n : ℕ) (xs : List Resolution) (rs : List ℕ) → Like (reached m p f t rs xs) rs → Like (flood n m p f t xs rs) rs
  unfolding flood
  flood_fixed zero xs rs like q = refl
  flood_fixed (suc n) xs rs like q = flood_like n xs _ _ like q ∙ flood_fixed n xs rs like q

  pub flood_more : (n k : ℕ) (xs : List Resolution) (rs : List ℕ) → k < n → flood (n - k) m p f t xs rs ≡ flood (n - (k + 1)) m p f t xs (reached m p f t rs xs)
  unfolding flood
  flood_more n k xs rs h = let e : n - k ≡ suc (n - (k + 1)) = omega arith in ap (λ j. flood j m p f t xs rs) e

  pub flood_none : (n k : ℕ) (xs : List Resolution) (rs : List ℕ) → n ≤ k → flood (n - k) m p f t xs rs ≡ rs
  unfolding flood
  flood_none n k xs rs h = let e : n - k ≡ 0 = omega arith in ap (λ j. flood j m p f t xs rs) e

  -- what one turn over the fleets leaves, from the first on: what was reached before, and what each fleet adds
  pub grown_start : (rs : List ℕ) (xs : List Resolution) (q : ℕ) → (is_in q rs || is_in q (reached m p f t rs xs)) ≡ is_in q (reached m p f t rs xs)
  unfolding gather any
  grown_start rs [] q = twice (is_in q rs)
    where
      twice : (a : Bool) → (a || a) ≡ a
      twice true = refl
      twice false = refl
  grown_start rs (x ∷ xs) q = go (carrier m p f t rs x) (grown_start rs xs q)
    where
      more : (a i r : Bool) → (i || r) ≡ r → (i || (a || r)) ≡ (a || r)
      more a i r h = grind arith

      go : (b : Bool) → (is_in q rs || is_in q (reached m p f t rs xs)) ≡ is_in q (reached m p f t rs xs) →
          (is_in q rs || is_in q (cond b (x.unit.region ∷ reached m p f t rs xs) (reached m p f t rs xs))) ≡ is_in q (cond b (x.unit.region ∷ reached m p f t rs xs) (reached m p f t rs xs))
      go true h = more (eqb q x.unit.region) (is_in q rs) (is_in q (reached m p f t rs xs)) h
      go false h = h

  pub grown : (old new : ℕ → Bool) (rs : List ℕ) (x : Resolution) (xs : List Resolution) → ((q : ℕ) → new q ≡ (eqb q x.unit.region || old q)) → carrier m p f t rs x ≡ true →
      (q : ℕ) → (new q || is_in q (reached m p f t rs xs)) ≡ (old q || is_in q (reached m p f t rs (x ∷ xs)))
  unfolding gather any
  grown old new rs x xs more here q = rw here (ap (λ b. b || is_in q (reached m p f t rs xs)) (more q) ∙ turn (eqb q x.unit.region) (old q) (is_in q (reached m p f t rs xs)))
    where
      turn : (a b c : Bool) → ((a || b) || c) ≡ (b || (a || c))
      turn a b c = grind arith

  pub passed : (rs : List ℕ) (x : Resolution) (xs : List Resolution) → carrier m p f t rs x ≡ false → reached m p f t rs xs ≡ reached m p f t rs (x ∷ xs)
  unfolding gather
  passed rs x xs here = rw here refl

  pub grown-end : (b : Bool) (rs : List ℕ) (q : ℕ) → (is_in q rs ≡ true → b ≡ true) → (b || is_in q (reached m p f t rs [])) ≡ b
  unfolding gather
  grown-end b rs q h = held b (is_in q rs) h
    where
      held : (a i : Bool) → (i ≡ true → a ≡ true) → (a || i) ≡ a
      held a true h = ap (λ b. b || true) (h refl) ∙ sym (h refl)
      held true false h = refl
      held false false h = refl

-- a path over water, by the two chains
pub path_water : (m : Board) (x : Resolution) (xs : List Resolution) (t : ℕ) → t ≡ aim x.order → true ≡ is_convoyed x.order → x.stranded ≡ false → (sure maybe : Bool) →
    sure ≡ chain m (surely_stays xs) x.unit.region t xs → maybe ≡ chain m (may_stay xs) x.unit.region t xs → cond sure Yes (cond maybe Open No) ≡ path m x xs
path_water m x xs t to water free sure maybe p q =
    let sure-is = p ∙ ap (λ r. chain m (surely_stays xs) x.unit.region r xs) to in
    let maybe-is = q ∙ ap (λ r. chain m (may_stay xs) x.unit.region r xs) to in
    let held = sym free in
    (λ i. cond (sure-is i) Yes (cond (maybe-is i) Open No)) ∙
    (λ i. cond (not (water i)) Yes (cond (held i) No (cond (chain m (surely_stays xs) x.unit.region (aim x.order) xs) Yes (cond (chain m (may_stay xs) x.unit.region (aim x.order) xs) Open No))))
