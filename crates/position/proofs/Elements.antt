-- What holds of all holds of the rest, and at each place; owners beside their regions. Assumes nothing.
use Rattle.std.proofs.Common.{◌≡◌, ℕ, zero, suc, ◌<◌, Bool, true, false, ◌&&◌, List, [], ◌∷◌, length, get_or, drop, Option, refl, ap, arith}
use Rattle.std.specs.List.{list_all, zip}
use Rattle.std.proofs.lemmas.Bool.{and_parts}
use Rattle.values.specs.Fold.{all}
use Rattle.board.specs.declared.region.Region.{Region}
use Rattle.game.specs.Lawful.{good_owner, good_owners}

pub all_drop : {X : Type 0} (test : X → Bool) (i : ℕ) (xs : List X) → all test xs ≡ true → all test (drop i xs) ≡ true
unfolding all
all_drop test zero xs h = h
all_drop test (suc i) [] h = refl
all_drop test (suc i) (x ∷ xs) h = all_drop test i xs (and_parts (test x) (all test xs) h).1

pub all-at : {X : Type 0} (test : X → Bool) (xs : List X) (i : ℕ) (d : X) → all test xs ≡ true → i < length xs → test (get_or xs i d) ≡ true
unfolding all
all-at test [] i d h l = absurd (omega arith)
all-at test (x ∷ xs) zero d h l = (and_parts (test x) (all test xs) h).0
all-at test (x ∷ xs) (suc i) d h l = all-at test xs i d (and_parts (test x) (all test xs) h).1 (omega arith)

-- an owner too many, or too few
pub owners_unlike : (qs : List Region) (os : List (Option ℕ)) → (length qs ≡ length os → ⊥) → good_owners qs os ≡ false
unfolding good_owners
owners_unlike [] [] h = absurd (h refl)
owners_unlike [] (o ∷ os) h = refl
owners_unlike (q ∷ qs) [] h = refl
owners_unlike (q ∷ qs) (o ∷ os) h = rest (good_owner q o) (owners_unlike qs os (λ e. h (ap suc e)))
  where
    rest : (t : Bool) → good_owners qs os ≡ false → (t && good_owners qs os) ≡ false
    rest true e = e
    rest false e = refl

-- an owner for each region, as a walk over both
pub owners_alike : (qs : List Region) (os : List (Option ℕ)) → length qs ≡ length os → list_all (λ p. good_owner p.0 p.1) (zip qs os) ≡ good_owners qs os
unfolding good_owners
owners_alike [] [] h = refl
owners_alike [] (o ∷ os) h = absurd (omega (arith, h))
owners_alike (q ∷ qs) [] h = absurd (omega (arith, h))
owners_alike (q ∷ qs) (o ∷ os) h = ap (λ b. good_owner q o && b) (owners_alike qs os (omega (arith, h)))
