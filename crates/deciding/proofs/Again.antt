-- Rounds move no unit and change no order, and a round that changes nothing ends them all. Assumes nothing.
use Rattle.std.proofs.Common.{◌≡◌, ℕ, zero, suc, ◌+◌, ◌-◌, ◌<◌, ◌≤◌, List, refl, ap, ◌∙◌, arith}
use Rattle.board.specs.Board.{Board}
use Rattle.assignment.specs.declared.lookup.Lookup.{Lookup}
use Rattle.assignment.specs.declared.resolution.Resolution.{Resolution}
use Rattle.assignment.specs.Places.{Inside}
use Rattle.assignment.specs.Lookup.{Indexed}
use Rattle.assignment.proofs.Kept.{indexed_kept, inside_kept}
use Rattle.deciding.specs.Rounds.{again, round, rounds}
use Rattle.deciding.specs.Outcome.{strand_one, strand, close_one, close}

pub indexed_round : (m : Board) (l : Lookup) (xs : List Resolution) → Indexed l xs → Indexed l (round m xs)
indexed_round m l xs h = indexed_kept (again m xs) (λ x. refl) (λ x. refl) l xs h

pub inside_round : (m : Board) (xs : List Resolution) → Inside xs → Inside (round m xs)
inside_round m xs h = inside_kept (again m xs) (λ x. refl) (λ x. refl) xs h

pub indexed_strand : (m : Board) (l : Lookup) (xs : List Resolution) → Indexed l xs → Indexed l (strand m xs)
indexed_strand m l xs h = indexed_kept (strand_one m xs) (λ x. refl) (λ x. refl) l xs h

pub inside_strand : (m : Board) (xs : List Resolution) → Inside xs → Inside (strand m xs)
inside_strand m xs h = inside_kept (strand_one m xs) (λ x. refl) (λ x. refl) xs h

pub indexed_close : (l : Lookup) (xs : List Resolution) → Indexed l xs → Indexed l (close xs)
indexed_close l xs h = indexed_kept close_one (λ x. refl) (λ x. refl) l xs h

pub inside_close : (xs : List Resolution) → Inside xs → Inside (close xs)
inside_close xs h = inside_kept close_one (λ x. refl) (λ x. refl) xs h

pub rounds_fixed : (n : ℕ) (m : Board) (xs : List Resolution) → round m xs ≡ xs → rounds n m xs ≡ xs
unfolding rounds
rounds_fixed zero m xs h = refl
rounds_fixed (suc n) m xs h = ap (rounds n m) h ∙ rounds_fixed n m xs h

pub rounds_more : (n k : ℕ) (m : Board) (xs : List Resolution) → k < n → rounds (n - k) m xs ≡ rounds (n - (k + 1)) m (round m xs)
unfolding rounds
rounds_more n k m xs h = let e : n - k ≡ suc (n - (k + 1)) = omega arith in ap (λ j. rounds j m xs) e

pub rounds_none : (n k : ℕ) (m : Board) (xs : List Resolution) → n ≤ k → rounds (n - k) m xs ≡ xs
unfolding rounds
rounds_none n k m xs h = let e : n - k ≡ 0 = omega arith in ap (λ j. rounds j m xs) e
