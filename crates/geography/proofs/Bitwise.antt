-- One bit of a word, of a union and of a power of two. Assumes nothing.
use Rattle.std.proofs.Common.{◌≡◌, ℕ, zero, suc, ◌+◌, ◌-◌, ◌*◌, ◌/◌, ◌%◌, ◌^◌, ◌<◌, ◌≤◌, Bool, true, false, cond, not, ◌&&◌, ◌||◌, eqb, ltb, List, [], ◌∷◌, sym, refl, ap, ◌∙◌, subst, ⊎_elim, one-mul, div-one, arith, pow_pos, pow_mono, pow-add}
use native.Mathlib.Nat.{div_self, div-eq_of_lt, pow-succ'}
use lib.Bits.{bit_and, bit_or, or_shr, or_mod, and_shr, and_mod, and_mask, and_le_l, shifted_even}
use lib.Pow.{pow-lt}
use Rattle.std.proofs.lemmas.Nat.{shl-shr, one_shl, shr-shr}
use Rattle.std.proofs.lemmas.Bool.{cases_order, eq-eqb, ne_eqb, eqb-false, eqb-true, cases_lt, cases_Bool, and_left, and_right, or_from, or_left, or_right, or_parts, or_cases, lt-ltb, le-ltb}
use Rattle.geography.specs.RegionSet.{bit, has, Holds}
use Rattle.values.specs.Fold.{any, is_in}
use Rattle.geography.specs.declared.region_set.RegionSet.{RegionSet}

pub bit_and_lem : (w k : ℕ) → eqb (bit_and (w / 2 ^ k) 1) 1 ≡ bit w k
bit_and_lem w k = ap (λ n. eqb n 1) (and_mask (w / 2 ^ k) 1)

small : (m n : ℕ) → m < 2 → n < 2 → eqb (bit_or m n) 1 ≡ (eqb m 1 || eqb n 1)
small zero zero h k = refl
small zero (suc zero) h k = refl
small (suc zero) zero h k = refl
small (suc zero) (suc zero) h k = refl
small zero (suc (suc n)) h k = absurd (omega arith)
small (suc zero) (suc (suc n)) h k = absurd (omega arith)
small (suc (suc m)) n h k = absurd (omega arith)

pub bit_or_lem : (a b k : ℕ) → bit (bit_or a b) k ≡ (bit a k || bit b k)
bit_or_lem a b k =
    ap (λ n. eqb (n % 2) 1) (or_shr a b k) ∙ ap (λ n. eqb n 1) (or_mod (a / 2 ^ k) (b / 2 ^ k) 1) ∙ small (a / 2 ^ k % 2) (b / 2 ^ k % 2) (omega arith) (omega arith)

-- 2 ^ k / 2 ^ j, by what j and k are
below : (j d : ℕ) → 2 ^ (suc d + j) / 2 ^ j % 2 ≡ 0
below j d = ap (λ n. n / 2 ^ j % 2) (pow-add 2 (suc d) j) ∙ ap (λ n. n % 2) (shl-shr (2 ^ suc d) j) ∙ ap (λ n. n % 2) (sym (one-mul (2 ^ suc d))) ∙ shifted_even 1 d

same : (k j : ℕ) → j ≡ k → 2 ^ k / 2 ^ j % 2 ≡ 1
same k j e = rw e (ap (λ n. n % 2) (div_self (pow_pos k)))

above : (k j : ℕ) → k < j → 2 ^ k / 2 ^ j % 2 ≡ 0
above k j h = ap (λ n. n % 2) (div-eq_of_lt (pow-lt h))

under : (k j : ℕ) → j < k → 2 ^ k / 2 ^ j % 2 ≡ 0
under k j h = let e : suc (k - suc j) + j ≡ k = omega arith in subst (λ n. 2 ^ n / 2 ^ j % 2 ≡ 0) e (below j (k - suc j))

pub bit_pow : (k j : ℕ) → bit (2 ^ k) j ≡ eqb j k
bit_pow k j =
    ⊎_elim
    (λ e. ap (λ n. eqb n 1) (same k j e) ∙ sym (eq-eqb j k e))
    (⊎_elim (λ h. ap (λ n. eqb n 1) (under k j h) ∙ sym (ne_eqb j k (λ e. omega arith))) (λ h. ap (λ n. eqb n 1) (above k j h) ∙ sym (ne_eqb j k (λ e. omega arith))))
    (cases_order j k)

or_swap : (a b : Bool) → (a || b) ≡ (b || a)
or_swap true true = refl
or_swap true false = refl
or_swap false true = refl
or_swap false false = refl

pub bit_set : (w k j : ℕ) → k < 64 → bit (bit_or w ((1 * 2 ^ k) % 2 ^ 64)) j ≡ (eqb j k || bit w j)
bit_set w k j h =
    ap (λ n. bit (bit_or w n) j) (one_shl k 64 h) ∙ bit_or_lem w (2 ^ k) j ∙ ap (λ b. bit w j || b) (bit_pow k j) ∙ or_swap (bit w j) (eqb j k)

-- both words at once
pub has_union : (s t : RegionSet) (q : ℕ) → has (record { low = bit_or s.low t.low; high = bit_or s.high t.high }) q ≡ (has s q || has t q)
has_union s t q = both (ltb q 64)
  where
    both : (b : Bool) → cond b (bit (bit_or s.low t.low) q) (bit (bit_or s.high t.high) (q - 64)) ≡ (cond b (bit s.low q) (bit s.high (q - 64)) || cond b (bit t.low q) (bit t.high (q - 64)))
    both true = bit_or_lem s.low t.low q
    both false = bit_or_lem s.high t.high (q - 64)

pub has_none : (q : ℕ) → has (record { low = 0; high = 0 }) q ≡ false
has_none q = none (ltb q 64)
  where
    zero_bit : (k : ℕ) → bit 0 k ≡ false
    zero_bit k = ap (λ n. eqb (n % 2) 1) (div-eq_of_lt (pow_pos k))

    none : (b : Bool) → cond b (bit 0 q) (bit 0 (q - 64)) ≡ false
    none true = zero_bit q
    none false = zero_bit (q - 64)

small_and : (m n : ℕ) → m < 2 → n < 2 → eqb (bit_and m n) 1 ≡ (eqb m 1 && eqb n 1)
small_and zero zero h k = refl
small_and zero (suc zero) h k = refl
small_and (suc zero) zero h k = refl
small_and (suc zero) (suc zero) h k = refl
small_and zero (suc (suc n)) h k = absurd (omega arith)
small_and (suc zero) (suc (suc n)) h k = absurd (omega arith)
small_and (suc (suc m)) n h k = absurd (omega arith)

pub bit_both : (a b k : ℕ) → bit (bit_and a b) k ≡ (bit a k && bit b k)
bit_both a b k =
    ap (λ n. eqb (n % 2) 1) (and_shr a b k) ∙ ap (λ n. eqb n 1) (and_mod (a / 2 ^ k) (b / 2 ^ k) 1) ∙ small_and (a / 2 ^ k % 2) (b / 2 ^ k % 2) (omega arith) (omega arith)

pub bit_none : (k : ℕ) → bit 0 k ≡ false
bit_none k = ap (λ n. eqb (n % 2) 1) (div-eq_of_lt (pow_pos k))

half_bit : (n k : ℕ) → bit (n / 2) k ≡ bit n (1 + k)
half_bit n k = ap (λ m. eqb (m % 2) 1) (shr-shr n 1 k)

even : (n : ℕ) → bit n 0 ≡ false → n % 2 ≡ 0
even n h = let e : n / 2 ^ 0 ≡ n = div-one n in let x = eqb-false (n / 2 ^ 0 % 2) 1 h in let y : n / 2 ^ 0 % 2 ≡ n % 2 = ap (λ m. m % 2) e in zero_of (n % 2) (omega arith) (λ z. x (y ∙ z))
  where
    zero_of : (m : ℕ) → m < 2 → (m ≡ 1 → ⊥) → m ≡ 0
    zero_of zero lt no_one = refl
    zero_of (suc zero) lt no_one = absurd (no_one refl)
    zero_of (suc (suc m)) lt no_one = absurd (omega arith)

-- a word with no bit is 0
pub no_bit : (f n : ℕ) → n < 2 ^ f → ((k : ℕ) → bit n k ≡ false) → n ≡ 0
no_bit zero n lt none = omega arith
no_bit (suc f) n lt none =
    let low : n % 2 ≡ 0 = even n (none 0) in
    let up : n / 2 < 2 ^ f = omega (arith, pow-succ' 2 f) in
    let rest : n / 2 ≡ 0 = no_bit f (n / 2) up (λ k. half_bit n k ∙ none (1 + k)) in
    omega arith

pub high_bit : (n k : ℕ) → n < 2 ^ 64 → 64 ≤ k → bit n k ≡ false
high_bit n k lt h = let p = pow_mono {i = 64} {j = k} h in ap (λ m. eqb (m % 2) 1) (div-eq_of_lt (omega arith))

module _ (a b : ℕ) where
  pub shared_none : not (eqb (bit_and a b) 0) ≡ false → (k : ℕ) → (bit a k && bit b k) ≡ false
  shared_none h k = sym (bit_both a b k) ∙ ap (λ n. bit n k) (eqb-true (bit_and a b) 0 (unnot (eqb (bit_and a b) 0) h)) ∙ bit_none k
    where
      unnot : (t : Bool) → not t ≡ false → t ≡ true
      unnot true e = refl
      unnot false e = sym e

  pub shared_some : a < 2 ^ 64 → ((k : ℕ) → k < 64 → (bit a k && bit b k) ≡ false) → not (eqb (bit_and a b) 0) ≡ false
  shared_some lt none =
      let l = and_le_l a b in
      let z = no_bit 64 (bit_and a b) (omega arith) (λ k. ⊎_elim (λ h. bit_both a b k ∙ none k h) (λ h. high_bit (bit_and a b) k (omega arith) h) (cases_lt k 64)) in
      ap not (eq-eqb (bit_and a b) 0 z)

-- ---- both words: no region in common, and the list of a set
and_of : (x y : Bool) → (x && y) ≡ false → y ≡ true → x ≡ false
and_of true true e h = e
and_of true false e h = sym h ∙ e
and_of false y e h = refl

apart : (a s : RegionSet) → ((k : ℕ) → (bit a.low k && bit s.low k) ≡ false) → ((k : ℕ) → (bit a.high k && bit s.high k) ≡ false) → (q : ℕ) → (has a q && has s q) ≡ false
apart a s low high q = both (ltb q 64)
  where
    both : (t : Bool) → (cond t (bit a.low q) (bit a.high (q - 64)) && cond t (bit s.low q) (bit s.high (q - 64))) ≡ false
    both true = low q
    both false = high (q - 64)

any_none : (a s : RegionSet) → ((q : ℕ) → (has a q && has s q) ≡ false) → (qs : List ℕ) → ((q : ℕ) → is_in q qs ≡ true → has s q ≡ true) → any (has a) qs ≡ false
unfolding any
any_none a s none [] h = refl
any_none a s none (q ∷ qs) h =
    or_from _ _ (and_of _ _ (none q) (h q (or_left _ _ (eq-eqb q q refl)))) (any_none a s none qs (λ p e. h p (or_right _ _ e)))

any_some : (a : RegionSet) (qs : List ℕ) → any (has a) qs ≡ false → (q : ℕ) → is_in q qs ≡ true → has a q ≡ false
unfolding any
any_some a [] none q h = absurd (let z : ◌≡◌ {A = ℕ} 0 1 = cc in omega arith)
any_some a (p ∷ qs) none q h =
    ⊎_elim (λ e. rw (eqb-true q p e) (or_parts _ _ none).0) (λ e. any_some a qs (or_parts _ _ none).1 q e) (or_cases _ _ h)

-- what `touches` answers: x and y are what `share` said of the two words
pub touch_false : (a s : RegionSet) (rs : List ℕ) → Holds s rs → ((k : ℕ) → (bit a.low k && bit s.low k) ≡ false) → ((k : ℕ) → (bit a.high k && bit s.high k) ≡ false) → any (has a) rs ≡ false
touch_false a s rs same low high = any_none a s (apart a s low high) rs (λ q e. same q ∙ e)

clash : (a s : RegionSet) (rs : List ℕ) → Holds s rs → any (has a) rs ≡ false → (q : ℕ) → (has a q && has s q) ≡ false
clash a s rs same none q = ⊎_elim (λ e. and_left _ _ (any_some a rs none q (sym (same q) ∙ e))) (λ e. and_right _ _ e) (cases_Bool (has s q))

pub touch_low : (a s : RegionSet) (rs : List ℕ) → Holds s rs → any (has a) rs ≡ false → (k : ℕ) → k < 64 → (bit a.low k && bit s.low k) ≡ false
touch_low a s rs same none k h = let t = lt-ltb k 64 h in rw t at (clash a s rs same none k)

pub touch_high : (a s : RegionSet) (rs : List ℕ) → Holds s rs → any (has a) rs ≡ false → (k : ℕ) → k < 64 → (bit a.high k && bit s.high k) ≡ false
touch_high a s rs same none k h = let t = le-ltb (k + 64) 64 (omega arith) in let e : k + 64 - 64 ≡ k = omega arith in rw (t, e) at (clash a s rs same none (k + 64))

pub same_test : (r t : Bool) → (t ≡ false → r ≡ false) → (r ≡ false → t ≡ false) → r ≡ t
same_test true true f g = refl
same_test true false f g = f refl
same_test false true f g = sym (g refl)
same_test false false f g = refl

-- ---- lists with the same regions
abbrev pub Like : List ℕ → List ℕ → Type 0
Like rs ts = (q : ℕ) → is_in q rs ≡ is_in q ts

any_false : (a : RegionSet) (qs : List ℕ) → ((q : ℕ) → is_in q qs ≡ true → has a q ≡ false) → any (has a) qs ≡ false
unfolding any
any_false a [] h = refl
any_false a (q ∷ qs) h = or_from _ _ (h q (or_left _ _ (eq-eqb q q refl))) (any_false a qs (λ p e. h p (or_right _ _ e)))

pub any_like : (a : RegionSet) (rs ts : List ℕ) → Like rs ts → any (has a) rs ≡ any (has a) ts
any_like a rs ts like =
    same_test _ _ (λ none. any_false a rs (λ q e. any_some a ts none q (sym (like q) ∙ e))) (λ none. any_false a ts (λ q e. any_some a rs none q (like q ∙ e)))

pub has_same : (a b : RegionSet) → a.low ≡ b.low → a.high ≡ b.high → (q : ℕ) → has a q ≡ has b q
has_same a b low high q = rw (low, high) refl

-- no region above 127
pub has_high : (s : RegionSet) (r : ℕ) → s.high < 2 ^ 64 → 128 ≤ r → false ≡ has s r
has_high s r lt h = let t = le-ltb r 64 (omega arith) in rw t (sym (high_bit s.high (r - 64) lt (omega arith)))
