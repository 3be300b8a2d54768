-- Lines in the order of regions: one more, and the same lines from what is the same for each region. Assumes nothing.
use Rattle.std.proofs.Common.{◌≡◌, ℕ, zero, suc, ◌+◌, ◌<◌, ◌≤◌, Bool, true, false, cond, ◌||◌, eqb, List, [], ◌∷◌, ◌++◌, sym, refl, ap, ◌∙◌, ⊎_elim, append_assoc, append-nil, add-zero, add_assoc, add-suc, add-one, arith}
use Rattle.std.proofs.lemmas.Bool.{cases_lt, eq-eqb, ne_eqb}
use Rattle.values.specs.Fold.{gather, any, each, count_up, select, is_in, those}
use Rattle.show.specs.Game.{by_region}

-- words put behind one another
pub ruleset joins = (append_assoc, append-nil)

each_last : (give : ℕ → List ℕ) (a k : ℕ) → each give (count_up a (suc k)) ≡ each give (count_up a k) ++ give (a + k)
unfolding each count_up
each_last give a zero = append-nil (give a) ∙ sym (ap give (add-zero a))
each_last give a (suc k) =
    let e : a + 1 + k ≡ a + suc k = omega arith in
    ap (λ l. give a ++ l) (each_last give (a + 1) k ∙ ap (λ n. each give (count_up (a + 1) k) ++ give n) e) ∙ sym (append_assoc (give a) (each give (count_up (a + 1) k)) (give (a + suc k)))

-- behind the lines of k regions, the line of the next
pub next_line : (give : ℕ → List ℕ) (old was now : List ℕ) (k : ℕ) → was ≡ old ++ by_region k give → now ≡ was ++ give k → now ≡ old ++ by_region (k + 1) give
next_line give old was now k before here =
    let z : 0 + k ≡ k = omega arith in
    here ∙ ap (λ l. l ++ give k) before ∙ append_assoc old (by_region k give) (give k) ∙ ap (λ l. old ++ l) (sym (ap (λ n. by_region n give) (add-one k) ∙ each_last give 0 k ∙ ap (λ n. by_region k give ++ give n) z))

-- no region, no line
pub no_line : (give : ℕ → List ℕ) (old : List ℕ) → old ≡ old ++ by_region 0 give
unfolding each count_up
no_line give old = sym (append-nil old)

each_same : (give other : ℕ → List ℕ) (a k : ℕ) → ((r : ℕ) → r < a + k → give r ≡ other r) → each give (count_up a k) ≡ each other (count_up a k)
unfolding each count_up
each_same give other a zero h = refl
each_same give other a (suc k) h =
    let e : a + 1 + k ≡ a + suc k = omega arith in
    ap (λ l. l ++ each give (count_up (a + 1) k)) (h a (omega arith)) ∙ ap (λ l. other a ++ l) (each_same give other (a + 1) k (λ r l. h r (omega arith)))

pub same_lines : (give other : ℕ → List ℕ) (n : ℕ) → ((r : ℕ) → r < n → give r ≡ other r) → by_region n give ≡ by_region n other
same_lines give other n h = each_same give other 0 n (λ r l. h r (omega arith))

pub all_lines : (give : ℕ → List ℕ) (old now : List ℕ) (k n : ℕ) → k ≡ n → now ≡ old ++ by_region k give → now ≡ old ++ by_region n give
all_lines give old now k n e h = h ∙ ap (λ i. old ++ by_region i give) e

-- what is in the list of those below n that pass the test
below_all : (test : ℕ → Bool) (r a k : ℕ) → r < a → is_in r (select test (count_up a k)) ≡ false
unfolding gather any count_up
below_all test r a zero h = refl
below_all test r a (suc k) h = go (test a) (below_all test r (a + 1) k (omega arith))
  where
    go : (t : Bool) → is_in r (select test (count_up (a + 1) k)) ≡ false → is_in r (cond t (a ∷ select test (count_up (a + 1) k)) (select test (count_up (a + 1) k))) ≡ false
    go true e = ap (λ b. b || is_in r (select test (count_up (a + 1) k))) (ne_eqb r a (λ q. omega arith)) ∙ e
    go false e = e

in_select : (test : ℕ → Bool) (r a k : ℕ) → a ≤ r → r < a + k → is_in r (select test (count_up a k)) ≡ test r
unfolding gather any count_up
in_select test r a zero low high = absurd (omega arith)
in_select test r a (suc k) low high = ⊎_elim (λ h. later (test a) (in_select test r (a + 1) k (omega arith) (omega arith)) (omega arith)) (λ h. here (omega arith)) (cases_lt a r)
  where
    here : r ≡ a → is_in r (cond (test a) (a ∷ select test (count_up (a + 1) k)) (select test (count_up (a + 1) k))) ≡ test r
    here e = first (test a) ∙ ap test (sym e)
      where
        first : (t : Bool) → is_in r (cond t (a ∷ select test (count_up (a + 1) k)) (select test (count_up (a + 1) k))) ≡ t
        first true = ap (λ b. b || is_in r (select test (count_up (a + 1) k))) (eq-eqb r a e)
        first false = below_all test r (a + 1) k (omega arith)

    later : (t : Bool) → is_in r (select test (count_up (a + 1) k)) ≡ test r → a < r → is_in r (cond t (a ∷ select test (count_up (a + 1) k)) (select test (count_up (a + 1) k))) ≡ test r
    later true f h = ap (λ b. b || is_in r (select test (count_up (a + 1) k))) (ne_eqb r a (λ q. omega arith)) ∙ f
    later false f h = f

pub is_in_those : (n : ℕ) (test : ℕ → Bool) (r : ℕ) → r < n → is_in r (those n test) ≡ test r
is_in_those n test r h = in_select test r 0 n (omega arith) (omega arith)
