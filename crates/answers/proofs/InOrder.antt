-- Words in the order of regions: one region more, and the same words from what is the same in each. Assumes nothing.
use Rattle.std.proofs.Common.{◌≡◌, ℕ, zero, suc, ◌+◌, ◌<◌, ◌≤◌, Bool, List, [], ◌∷◌, ◌++◌, filter, sym, refl, ap, ◌∙◌, append_assoc, append-nil, add-zero, add-one, arith}
use Rattle.std.specs.List.{range_with_len}
use Rattle.values.specs.Fold.{each, count_up, those}
use Rattle.values.proofs.Chains.{select_is}
use Rattle.answers.specs.Words.{by_region}

-- words put behind one another
pub ruleset joins = (append_assoc, append-nil)

-- words put behind a front that is known
pub put : (old new front more these : List ℕ) → new ≡ old ++ more → old ≡ front → more ≡ these → new ≡ front ++ these
put old new front more these h f m = h ∙ ap (λ l. l ++ more) f ∙ ap (λ l. front ++ l) m

each_last : (give : ℕ → List ℕ) (a k : ℕ) → each give (count_up a (suc k)) ≡ each give (count_up a k) ++ give (a + k)
unfolding each count_up
each_last give a zero = append-nil (give a) ∙ sym (ap give (add-zero a))
each_last give a (suc k) =
    let e : a + 1 + k ≡ a + suc k = omega arith in
    ap (λ l. give a ++ l) (each_last give (a + 1) k ∙ ap (λ n. each give (count_up (a + 1) k) ++ give n) e) ∙ sym (append_assoc (give a) (each give (count_up (a + 1) k)) (give (a + suc k)))

-- behind the words of k regions, those of the next
pub next_region : (give : ℕ → List ℕ) (old was now : List ℕ) (k : ℕ) → was ≡ old ++ by_region k give → now ≡ was ++ give k → now ≡ old ++ by_region (k + 1) give
next_region give old was now k before here =
    let z : 0 + k ≡ k = omega arith in
    here ∙ ap (λ l. l ++ give k) before ∙ append_assoc old (by_region k give) (give k) ∙ ap (λ l. old ++ l) (sym (ap (λ n. by_region n give) (add-one k) ∙ each_last give 0 k ∙ ap (λ n. by_region k give ++ give n) z))

pub no_region : (give : ℕ → List ℕ) (old : List ℕ) → old ≡ old ++ by_region 0 give
unfolding each count_up
no_region give old = sym (append-nil old)

each_same : (give other : ℕ → List ℕ) (a k : ℕ) → ((r : ℕ) → r < a + k → give r ≡ other r) → each give (count_up a k) ≡ each other (count_up a k)
unfolding each count_up
each_same give other a zero h = refl
each_same give other a (suc k) h =
    ap (λ l. l ++ each give (count_up (a + 1) k)) (h a (omega arith)) ∙ ap (λ l. other a ++ l) (each_same give other (a + 1) k (λ r l. h r (omega arith)))

pub same_words : (give other : ℕ → List ℕ) (n : ℕ) → ((r : ℕ) → r < n → give r ≡ other r) → by_region n give ≡ by_region n other
same_words give other n h = each_same give other 0 n (λ r l. h r (omega arith))

counted_is : (a n : ℕ) → count_up a n ≡ range_with_len a n
unfolding count_up
counted_is a zero = refl
counted_is a (suc n) = ap (λ l. a ∷ l) (counted_is (a + 1) n)

-- the numbers of a range that pass a test
pub those_is : (n : ℕ) (test : ℕ → Bool) → filter test (range_with_len 0 n) ≡ those n test
those_is n test = sym (select_is test (count_up 0 n) ∙ ap (filter test) (counted_is 0 n))
