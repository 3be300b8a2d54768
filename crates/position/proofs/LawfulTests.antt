-- Barred regions of a set are on the board; lawful as the tests that the code makes. Assumes nothing.
use Rattle.std.proofs.Common.{◌≡◌, ℕ, zero, suc, ◌+◌, ◌≤◌, Bool, true, false, cond, ◌&&◌, ◌||◌, eqb, ltb, List, ◌∷◌, length, Option, refl, arith}
use Rattle.std.proofs.lemmas.Bool.{and_from, lt-ltb}
use Rattle.values.specs.Fold.{all, gather, select, count_up, those, distinct}
use Rattle.geography.specs.declared.region_set.RegionSet.{RegionSet}
use Rattle.geography.specs.RegionSet.{has}
use Rattle.board.specs.declared.unit.Unit.{Unit}
use Rattle.board.specs.Board.{Board, stands, on_board}
use Rattle.game.specs.declared.phase.Phase.{Phase}
use Rattle.game.specs.declared.phase.Dislodged.{Dislodged}
use Rattle.game.specs.Game.{is_retreats}
use Rattle.game.specs.Lawful.{places, units_in, from_board, good_owners, lawful}
use Rattle.position.specs.Tables.{game_from, placed_on}

those_from : (n : ℕ) (test : ℕ → Bool) (a k : ℕ) → a + k ≤ n → all (λ r. ltb r n) (select test (count_up a k)) ≡ true
unfolding all gather count_up
those_from n test a zero h = refl
those_from n test a (suc k) h = one (test a) (those_from n test (a + 1) k (omega arith))
  where
    one : (t : Bool) → all (λ r. ltb r n) (select test (count_up (a + 1) k)) ≡ true → all (λ r. ltb r n) (cond t (a ∷ select test (count_up (a + 1) k)) (select test (count_up (a + 1) k))) ≡ true
    one true rest = and_from (ltb a n) _ (lt-ltb a n (omega arith)) rest
    one false rest = rest

pub those_below : (n : ℕ) (test : ℕ → Bool) → all (λ r. ltb r n) (those n test) ≡ true
those_below n test = those_from n test 0 n (omega arith)

regroup : (a b c d e f g h : Bool) → g ≡ true → (((a && b) && ((c && d) && e)) && (f && h)) ≡ (a && (b && (c && (d && (e && (f && (g && h)))))))
regroup true true true true true true g h k = rw k refl
regroup true true true true true false g h k = refl
regroup true true true true false f g h k = refl
regroup true true true false e f g h k = refl
regroup true true false d e f g h k = refl
regroup true false c d e f g h k = refl
regroup false b c d e f g h k = refl

pub lawful_is : (m : Board) (phase : Phase) (us : List Unit) (ds : List Dislodged) (s : RegionSet) (os : List (Option ℕ)) →
    (placed_on m us ds && (good_owners m.regions os && (is_retreats phase || (eqb (length ds) 0 && eqb (length (those (length m.regions) (has s))) 0)))) ≡ lawful m (game_from (length m.regions) phase us ds s os)
lawful_is m phase us ds s os =
    regroup (distinct (places us)) (all (stands m) us) (distinct (places (units_in ds))) (all (stands m) (units_in ds)) (all (λ d. from_board m d.from) ds) (good_owners m.regions os) (all (on_board m) (those (length m.regions) (has s))) (is_retreats phase || (eqb (length ds) 0 && eqb (length (those (length m.regions) (has s))) 0)) (those_below (length m.regions) (has s))
