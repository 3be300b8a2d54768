-- One element on in a list, where a standing unit is, and an option as a list of one or none. Assumes nothing.
use Rattle.std.proofs.Common.{◌≡◌, ℕ, ◌+◌, ◌<◌, ◌≤◌, Bool, true, false, cond, ◌||◌, eqb, List, [], ◌∷◌, ◌++◌, length, get_or, drop, slice_get, Ok, Err, Result, IfOk, Some, None, Option, sym, refl, ap, ◌∙◌, arith}
use Rattle.std.specs.List.{cons_option}
use Rattle.std.specs.Option.{option_eq, option_to_list}
use Rattle.std.proofs.lemmas.List.{drop_more, drop_all}
use Rattle.values.specs.Fold.{any, all}
use Rattle.board.specs.declared.unit.Unit.{Unit}
use Rattle.board.specs.Board.{Board, good_board, stands}
use Rattle.game.specs.Retreats.{is_just}
use Rattle.tables.proofs.Folds.{no_unit}
use Rattle.tables.proofs.Placement.{stand_at, board_small}

-- ---- one element on: what held before, or holds of one that is left
pub or_turned : (a b : Bool) → (a || b) ≡ (b || a)
or_turned a b = grind arith

pub any_more : {A : Type 0} (test : A → Bool) (xs : List A) (i : ℕ) (d : A) (before after whole : Bool) → i < length xs → after ≡ (test (get_or xs i d) || before) → (before || any test (drop i xs)) ≡ whole → (after || any test (drop (i + 1) xs)) ≡ whole
unfolding any
any_more test xs i d before after whole h adds so =
    ap (λ b. b || any test (drop (i + 1) xs)) adds ∙ swap (test (get_or xs i d)) before (any test (drop (i + 1) xs)) ∙ ap (λ ys. before || any test ys) (sym (drop_more xs i d h)) ∙ so
  where
    swap : (a b c : Bool) → ((a || b) || c) ≡ (b || (a || c))
    swap a b c = grind arith

or_false : (a b : Bool) → b ≡ false → (a || b) ≡ a
or_false a b e = grind arith

pub any_done : {A : Type 0} (test : A → Bool) (xs : List A) (i : ℕ) (before whole : Bool) → length xs ≤ i → (before || any test (drop i xs)) ≡ whole → before ≡ whole
unfolding any
any_done test xs i before whole h so = sym (or_false before (any test (drop i xs)) (ap (any test) (drop_all i xs h))) ∙ so

-- the region of a unit that stands is one of a RegionSet
pub region_small : (m : Board) (us : List Unit) (i : ℕ) → good_board m ≡ true → all (stands m) us ≡ true → i < length us → (get_or us i no_unit).region < 128
region_small m us i good e h = let p = stand_at m us i e h in let b = board_small m good in omega arith

-- a test of equality with Some
pub just_is : (n : ℕ) (o : Option ℕ) → option_eq eqb o (Some n) ≡ is_just n o
just_is n None = refl
just_is n (Some k) = grind arith

-- what holds of a value in each case, if there is one
pub if_ok_each : {V E I : Type 0} (r : Result V E) (L : V → Type 0) (P : I → Type 0) (Q : I → V → Type 0) → IfOk r L → ((i : I) → P i → IfOk r (Q i)) → IfOk r (λ v. L v × ((i : I) → P i → Q i v))
if_ok_each (Ok v) L P Q a b = (a, b)
if_ok_each (Err e) L P Q a b = tt

-- ---- an option, as a list of one or none
pub first_of : {A : Type 0} (o : Option A) (xs : List A) → option_to_list o ≡ xs → o ≡ slice_get xs 0
first_of None xs e = ap (λ ys. slice_get ys 0) e
first_of (Some x) xs e = ap (λ ys. slice_get ys 0) e

pub one_if : {A : Type 0} (b : Bool) (x : A) → option_to_list (slice_get (cond b (x ∷ []) []) 0) ≡ cond b (x ∷ []) []
one_if true x = refl
one_if false x = refl

pub added : {A : Type 0} (o : Option A) (xs : List A) → cons_option o xs ≡ option_to_list o ++ xs
added None xs = refl
added (Some x) xs = refl
