-- What a position's laws give its tables: few units, in regions below 128, and barred regions of the board.
use Rattle.std.proofs.Common.{◌≡◌, ℕ, zero, suc, ◌+◌, ◌<◌, ◌≤◌, Bool, true, false, ◌&&◌, ◌||◌, eqb, ltb, List, [], ◌∷◌, length, get_or, sym, refl, ap, ⊎_elim, arith}
use mathlib.Core.List.{Memᴰ}
use Rattle.std.proofs.lemmas.Bool.{cases_Bool, and_parts, and_from, ltb-true, lt-ltb, eqb-true, eqb-false}
use Rattle.std.proofs.lemmas.Bool.Decides.{nat_tests}
use Rattle.values.specs.Fold.{is_in, those}
use Rattle.board.specs.declared.unit.Unit.{Unit}
use Rattle.board.specs.Board.{Board, good_board}
use Rattle.assignment.specs.Assignment.{nobody}
use Rattle.assignment.specs.Places.{Inside}
use Rattle.deciding.specs.Outcome.{fresh}
use Rattle.game.specs.Game.{Game}
use Rattle.game.specs.Texts.{ordered}
use Rattle.game.specs.declared.text.Written.{Written}
use Rattle.game.specs.Lawful.{lawful}
use Rattle.year_laws.proofs.LawfulFacts.{lawful_facts, units_small, placed_small, lawful_bounded}
use Rattle.year_laws.proofs.Members.{in_list, list_in, those-at, those_of}

fresh-length : (m : Board) (us : List Unit) (ws : List Written) → length (fresh m (ordered us ws)) ≡ length us
fresh-length m [] ws = refl
fresh-length m (u ∷ us) ws = ap suc (fresh-length m us ws)

region_below : (m : Board) (us : List Unit) (ws : List Written) → ((u : Unit) → Memᴰ u us → u.region < 128) → (k : ℕ) → (get_or (fresh m (ordered us ws)) k nobody).unit.region < 128
region_below m [] ws h k = omega arith
region_below m (u ∷ us) ws h zero = h u (Memᴰ.head refl)
region_below m (u ∷ us) ws h (suc k) = region_below m us ws (λ v i. h v (Memᴰ.tail i)) k

module _ (m : Board) (g : Game) (good : good_board m ≡ true) (legal : lawful m g ≡ true) where
  pub fresh_few : (ws : List Written) → length (fresh m (ordered g.units ws)) ≤ 128
  fresh_few ws = let n = fresh-length m g.units ws in let s = units_small m g good (lawful_facts m g legal) in omega arith

  pub fresh_inside : (ws : List Written) → Inside (fresh m (ordered g.units ws))
  unfolding Inside
  fresh_inside ws = region_below m g.units ws (λ u i. placed_small m u good ((lawful_bounded m g (lawful_facts m g legal)).placed u i))

-- whether a number is among those below n that pass the test
pub those_in : (n : ℕ) (test : ℕ → Bool) (q : ℕ) → (ltb q n && test q) ≡ is_in q (those n test)
those_in n test q = same_truth (ltb q n && test q) (is_in q (those n test))
    (λ e. let both = and_parts (ltb q n) (test q) e in in_list q (those n test) (those_of n test q (ltb-true q n both.0) both.1))
    (λ e. let both = those-at n test q (list_in q (those n test) e) in and_from (ltb q n) (test q) (lt-ltb q n both.0) both.1)
  where
    same_truth : (a b : Bool) → (a ≡ true → b ≡ true) → (b ≡ true → a ≡ true) → a ≡ b
    same_truth true b f g = sym (f refl)
    same_truth false true f g = g refl
    same_truth false false f g = refl

-- one region more, barred or not
pub one_barred : (q r : ℕ) (h : Bool) → (q ≡ r → h ≡ true) → (eqb q r || (ltb q r && h)) ≡ (ltb q (r + 1) && h)
one_barred q r true f = grind (arith, nat_tests)
one_barred q r false f = ⊎_elim (λ e. absurd (let z : ◌≡◌ {A = Bool} false true = f (eqb-true q r e) in let n : ◌≡◌ {A = ℕ} 0 1 = cc in omega arith)) (λ e. rw e (grind (arith, nat_tests))) (cases_Bool (eqb q r))

pub one_free : (q r : ℕ) (h : Bool) → (q ≡ r → h ≡ false) → (ltb q r && h) ≡ (ltb q (r + 1) && h)
one_free q r true f = ⊎_elim (λ e. absurd (let z : ◌≡◌ {A = Bool} true false = f (eqb-true q r e) in let n : ◌≡◌ {A = ℕ} 0 1 = cc in omega arith)) (λ e. let ne = eqb-false q r e in grind (arith, nat_tests)) (cases_Bool (eqb q r))
one_free q r false f = grind (arith, nat_tests)

pub none_below : (q : ℕ) (h : Bool) → false ≡ (ltb q 0 && h)
none_below q h = grind (arith, nat_tests)
