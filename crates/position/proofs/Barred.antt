-- Walking the regions upwards meets just those of a set; a set that holds none of the regions below a bound. Assumes nothing.
use Rattle.std.proofs.Common.{◌≡◌, ℕ, zero, suc, ◌+◌, ◌-◌, ◌<◌, ◌≤◌, Bool, true, false, cond, not, ◌&&◌, eqb, [], ◌∷◌, length, refl, sym, ap, arith}
use Rattle.std.proofs.Math.Dec.{eqb-suc-zero}
use Rattle.std.specs.List.{list_all, range_with_len}
use Rattle.values.specs.Fold.{gather, select, count_up, those}

one_less : (n i : ℕ) → i < n → n - i ≡ suc (n - (i + 1))
one_less n i h = omega arith

none_left : (n i : ℕ) → n ≤ i → n - i ≡ 0
none_left n i h = omega arith

pub select_more : (test : ℕ → Bool) (n i : ℕ) → i < n → select test (count_up i (n - i)) ≡ cond (test i) (i ∷ select test (count_up (i + 1) (n - (i + 1)))) (select test (count_up (i + 1) (n - (i + 1))))
unfolding gather count_up
select_more test n i h = ap (λ k. select test (count_up i k)) (one_less n i h)

pub select-all : (test : ℕ → Bool) (n i : ℕ) → n ≤ i → select test (count_up i (n - i)) ≡ []
unfolding gather count_up
select-all test n i h = ap (λ k. select test (count_up i k)) (none_left n i h)

none_from : (test : ℕ → Bool) (a n : ℕ) → list_all (λ r. not (test r)) (range_with_len a n) ≡ eqb (length (select test (count_up a n))) 0
unfolding gather count_up
none_from test a zero = refl
none_from test a (suc n) = one (test a) (none_from test (a + 1) n)
  where
    one : (t : Bool) → list_all (λ r. not (test r)) (range_with_len (a + 1) n) ≡ eqb (length (select test (count_up (a + 1) n))) 0 →
        (not t && list_all (λ r. not (test r)) (range_with_len (a + 1) n)) ≡ eqb (length (cond t (a ∷ select test (count_up (a + 1) n)) (select test (count_up (a + 1) n)))) 0
    one true rest = sym (eqb-suc-zero (length (select test (count_up (a + 1) n))))
    one false rest = rest

pub none_of : (test : ℕ → Bool) (n : ℕ) → list_all (λ r. not (test r)) (range_with_len 0 n) ≡ eqb (length (those n test)) 0
none_of test n = none_from test 0 n
