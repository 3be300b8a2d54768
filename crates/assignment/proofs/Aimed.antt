-- Going over the orders aimed at a region, from the last to the first, comes to what going over all orders does. Assumes nothing.
use Rattle.std.proofs.Common.{◌≡◌, ℕ, suc, ◌+◌, ◌<◌, Bool, true, false, cond, List, [], ◌∷◌, ◌++◌, length, get_or, sym, refl, ap, ◌∙◌, ⊎_elim, append-nil, ◌≤◌, arith}
use Rattle.std.specs.List.{fold, All}
use Rattle.std.proofs.lemmas.Bool.{false≢true, cases_lt}
use Rattle.std.proofs.lemmas.List.{get_or_append_left, get_or_default, get_or_push, length_push}
use Rattle.std.proofs.lemmas.List.Sums.{fold-append}
use Rattle.values.specs.Fold.{gather}
use Rattle.assignment.specs.declared.resolution.Resolution.{Resolution}
use Rattle.assignment.specs.Assignment.{nobody}
use Rattle.board.specs.Order.{goes_to}
use Rattle.assignment.specs.Places.{aimed_at, aimed_from, places_aimed}

-- one turn: what the order in place i adds
abbrev pub turn : {B : Type 0} → (Resolution → Bool) → (Resolution → B → B) → List Resolution → B → ℕ → B
turn test step xs b i = cond (test (get_or xs i nobody)) (step (get_or xs i nobody) b) b

module _ {B : Type 0} (test : Resolution → Bool) (step : Resolution → B → B) (start : B) (r : ℕ) (only : (x : Resolution) → test x ≡ true → aimed_at r x ≡ true) where
  last_turn : (x : Resolution) (xs : List Resolution) (i : ℕ) (b : B) → x ≡ get_or xs i nobody → (t : Bool) → aimed_at r x ≡ t → fold (turn test step xs) b (cond t (i ∷ []) []) ≡ cond (test x) (step x b) b
  last_turn x xs i b e true a = ap (λ y. cond (test y) (step y b) b) (sym e)
  last_turn x xs i b e false a = go (test x) refl
    where
      go : (t : Bool) → test x ≡ t → b ≡ cond t (step x b) b
      go true h = absurd (false≢true (sym a ∙ only x h))
      go false h = refl

  walked : (xs ys : List Resolution) (i : ℕ) → ((k : ℕ) → get_or ys k nobody ≡ get_or xs (i + k) nobody) → fold (turn test step xs) start (aimed_from i r ys) ≡ gather test step start ys
  unfolding aimed_from gather
  walked xs [] i e = refl
  walked xs (x ∷ ys) i e =
      fold-append (turn test step xs) start (aimed_from (i + 1) r ys) (cond (aimed_at r x) (i ∷ []) []) ∙
      ap (λ b. fold (turn test step xs) b (cond (aimed_at r x) (i ∷ []) [])) (walked xs ys (i + 1) (λ k. let f : i + suc k ≡ i + 1 + k = omega arith in e (suc k) ∙ ap (λ n. get_or xs n nobody) f)) ∙
      last_turn x xs i (gather test step start ys) (let f : i + 0 ≡ i = omega arith in e 0 ∙ ap (λ n. get_or xs n nobody) f) (aimed_at r x) refl

  -- only what is aimed at r passes the test, so that nothing else is needed
  pub fold_aimed : (xs : List Resolution) → fold (turn test step xs) start (places_aimed r xs) ≡ gather test step start xs
  fold_aimed xs = walked xs xs 0 (λ k. let e : k ≡ 0 + k = omega arith in ap (λ n. get_or xs n nobody) e)

-- each of the places lies in the list
within_from : (i r k : ℕ) (xs : List Resolution) → k < length (aimed_from i r xs) → get_or (aimed_from i r xs) k 0 < i + length xs
unfolding aimed_from
within_from i r k [] h = absurd (omega arith)
within_from i r k (x ∷ xs) h = go (within_from (i + 1) r k xs) (aimed_at r x) h
  where
    rest : List ℕ
    rest = aimed_from (i + 1) r xs

    last : (t : Bool) → length rest ≤ k → k < length (rest ++ cond t (i ∷ []) []) → get_or (rest ++ cond t (i ∷ []) []) k 0 < i + suc (length xs)
    last true l h =
        let n = length_push rest i in
        let same : length rest ≡ k = omega arith in
        let e = get_or_push rest i 0 k same in
        omega arith
    last false l h = let n : length (rest ++ []) ≡ length rest = ap length (append-nil rest) in absurd (omega arith)

    go : (k < length rest → get_or rest k 0 < i + 1 + length xs) → (t : Bool) → k < length (rest ++ cond t (i ∷ []) []) → get_or (rest ++ cond t (i ∷ []) []) k 0 < i + suc (length xs)
    go below t h = ⊎_elim (λ l. let e = get_or_append_left rest (cond t (i ∷ []) []) 0 k l in let b = below l in omega arith) (λ l. last t l h) (cases_lt k (length rest))

pub aimed_within : (r : ℕ) (xs : List Resolution) → All (λ i. i < length xs) (places_aimed r xs)
aimed_within r xs k d h = let e = get_or_default (places_aimed r xs) k d 0 h in let l = within_from 0 r k xs h in omega arith

few_from : (i r : ℕ) (xs : List Resolution) → length (aimed_from i r xs) ≤ length xs
unfolding aimed_from
few_from i r [] = omega arith
few_from i r (x ∷ xs) = go (few_from (i + 1) r xs) (aimed_at r x)
  where
    rest : List ℕ
    rest = aimed_from (i + 1) r xs

    go : length rest ≤ length xs → (t : Bool) → length (rest ++ cond t (i ∷ []) []) ≤ suc (length xs)
    go below true = let n = length_push rest i in omega arith
    go below false = let n : length (rest ++ []) ≡ length rest = ap length (append-nil rest) in omega arith

-- no more places than orders
pub aimed_few : (r : ℕ) (xs : List Resolution) → length (places_aimed r xs) ≤ length xs
aimed_few r xs = few_from 0 r xs

-- only a move into r goes to r
pub goes_aimed : (r : ℕ) (x : Resolution) → goes_to r x.order ≡ true → aimed_at r x ≡ true
goes_aimed r x e = grind arith
