-- Rounds from nothing decided only decide more, and come to rest.
use Rattle.std.proofs.Common.{◌≡◌, ℕ, zero, suc, ◌+◌, ◌<◌, ◌≤◌, ◌⊎◌, List, [], ◌∷◌, map, length, sym, refl, ap, ◌∙◌, subst, inl, inr, arith}
use mathlib.Core.List.{Memᴰ}
use Rattle.values.specs.declared.tri.Tri.{Tri}
use Rattle.values.specs.declared.tri.Tri.TheVariants.{No, Open, Yes}
use Rattle.board.specs.Board.{Board}
use Rattle.assignment.specs.declared.resolution.Resolution.{Resolution}
use Rattle.strength.specs.Decide.{decides}
use Rattle.deciding.specs.Rounds.{again, round, rounds}
use Rattle.deciding.specs.Outcome.{strand_one, strand, Ordered, fresh_one, fresh}
use Rattle.deciding_laws.specs.Assignments.{Agrees}
use Rattle.deciding_laws.specs.Rounds.{RoundsEnd}
use Rattle.deciding_laws.proofs.Information.{Below, opens, same}
use Rattle.deciding_laws.proofs.Along.{it, Along, none, more, agrees}
use Rattle.deciding_laws.proofs.Members.{mem_map}
use Rattle.deciding_laws.proofs.RoundMonotone.{Under, round_monotone}

pub rises : (m : Board) (n : ℕ) {xs : List Resolution} → Along Under xs (round m xs) → Along Under (rounds n m xs) (round m (rounds n m xs))
unfolding rounds
rises m zero a = a
rises m (suc n) a = rises m n (round_monotone m a)

-- 1 for what is open
abbrev one : Tri → ℕ
one No = 0
one Open = 1
one Yes = 0

-- how many are open
pub opens_in : List Resolution → ℕ
opens_in [] = 0
opens_in (x ∷ xs) = one x.value + opens_in xs

one_few : (t : Tri) → one t ≤ 1
one_few t = grind arith

pub opens_few : (xs : List Resolution) → opens_in xs ≤ length xs
unfolding opens_in
opens_few [] = omega arith
opens_few (x ∷ xs) = omega (arith, opens_few xs, one_few x.value)

one_less : {v w : Tri} → Below v w → (v ≡ w) ⊎ (one w < one v)
one_less (opens {b = No}) = inr (omega arith)
one_less (opens {b = Open}) = inl refl
one_less (opens {b = Yes}) = inr (omega arith)
one_less same = inl refl

-- a step either changes nothing or leaves less open
pub less : {xs ys : List Resolution} → Along Under xs ys → (xs ≡ ys) ⊎ (opens_in ys < opens_in xs)
unfolding opens_in
less none = inl refl
less (more u o {v} {w} {d} {e} {xs} {ys} h a) = go (one_less h.value) (less a)
  where
    go : (v ≡ w) ⊎ (one w < one v) → (xs ≡ ys) ⊎ (opens_in ys < opens_in xs) → (it u o v d ∷ xs ≡ it u o w e ∷ ys) ⊎ (opens_in (it u o w e ∷ ys) < opens_in (it u o v d ∷ xs))
    go (inl p) (inl q) = inl (λ i. it u o (p i) (h.stranded i) ∷ q i)
    go (inl p) (inr q) = inr (omega (arith, ap one p))
    go (inr p) (inl q) = inr (omega (arith, ap opens_in q))
    go (inr p) (inr q) = inr (omega arith)

pub stays : (m : Board) (n : ℕ) (xs : List Resolution) → round m xs ≡ xs → rounds n m xs ≡ xs
unfolding rounds
stays m zero xs e = refl
stays m (suc n) xs e = rw e (stays m n xs e)

-- enough rounds come to rest
pub still : (m : Board) (n : ℕ) {xs : List Resolution} → Along Under xs (round m xs) → opens_in xs ≤ n → round m (rounds n m xs) ≡ rounds n m xs
unfolding rounds
still m zero a h = elim (less a) [ inl e ↦ sym e | inr q ↦ absurd (omega arith) ]
still m (suc n) {xs} a h = go (λ k. still m n (round_monotone m a) k) (less a)
  where
    go : (opens_in (round m xs) ≤ n → round m (rounds n m (round m xs)) ≡ rounds n m (round m xs)) → (xs ≡ round m xs) ⊎ (opens_in (round m xs) < opens_in xs) → round m (rounds n m (round m xs)) ≡ rounds n m (round m xs)
    go k (inl e) = rw (← e) (rw (stays m n xs (sym e)) (sym e))
    go k (inr q) = k (omega arith)

pub rests : (m : Board) {xs : List Resolution} → Along Under xs (round m xs) → round m (rounds (length xs + 1) m xs) ≡ rounds (length xs + 1) m xs
rests m {xs} a = still m (length xs + 1) a (omega (arith, opens_few xs))

-- from nothing decided a round only decides more
pub open_rises : (m : Board) (others xs : List Resolution) → ((x : Resolution) → Memᴰ x xs → x.value ≡ Open) → Along Under xs (map (again m others) xs)
open_rises m others [] h = none
open_rises m others (x ∷ xs) h =
    more x.unit x.order (record { value = subst (λ v. Below v (decides m x others x.order)) (sym (h x (Memᴰ.head refl))) opens; stranded = refl }) (open_rises m others xs (λ y i. h y (Memᴰ.tail i)))

pub fresh_open : (m : Board) (os : List Ordered) (x : Resolution) → Memᴰ x (fresh m os) → x.value ≡ Open
fresh_open m os x i = ap (λ y. y.value) (mem_map (fresh_one m) x os i).2

pub strand_open : (m : Board) (xs : List Resolution) (x : Resolution) → Memᴰ x (strand m xs) → x.value ≡ Open
strand_open m xs x i = ap (λ y. y.value) (mem_map (strand_one m xs) x xs i).2

-- one more round at the end is one more at the beginning
round_last : (m : Board) (n : ℕ) (xs : List Resolution) → round m (rounds n m xs) ≡ rounds n m (round m xs)
unfolding rounds
round_last m zero xs = refl
round_last m (suc n) xs = round_last m n (round m xs)

pub rounds-end : RoundsEnd
unfolding rounds
rounds-end m xs h =
    let a = open_rises m xs xs h in
    let e = still m (length xs) a (opens_few xs) in
    record {
      ascend = λ n. subst (λ ys. Agrees (rounds n m xs) ys) (round_last m n xs) (agrees (λ _ _ k _. k.value) (λ _ _ k. k.stranded) (rises m n a));
      enough = e;
      rested = one_more (length xs) ∙ (sym (round_last m (length xs) xs) ∙ e);
    }
  where
    one_more : (n : ℕ) → rounds (n + 1) m xs ≡ rounds n m (round m xs)
    one_more n = ap (λ k. rounds k m xs) (plus_one n)
      where
        plus_one : (n : ℕ) → n + 1 ≡ suc n
        plus_one n = omega arith
