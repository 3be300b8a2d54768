-- One element on in a list, and what holds of each element. Assumes nothing.
use Rattle.std.proofs.Common.{◌≡◌, ℕ, zero, suc, ◌+◌, ◌<◌, Bool, true, false, cond, List, [], ◌∷◌, ◌++◌, length, get_or, take, drop, sym, refl, ap, ◌∙◌, append_assoc, arith}
use Rattle.std.proofs.lemmas.List.{drop_more}
use Rattle.std.proofs.lemmas.Bool.{and_parts, and_from}
use Rattle.values.specs.Fold.{gather, all, each, select, pick}
use Rattle.board.specs.declared.unit.Unit.{Unit}

-- what a read past the end gives
abbrev pub no_unit : Unit
no_unit = record { power = 0; region = 0; fleet = false }

pub unit_more : (us : List Unit) (i : ℕ) → i < length us → drop i us ≡ get_or us i no_unit ∷ drop (i + 1) us
unit_more us i h = drop_more us i no_unit h

pub all-at : {A : Type 0} (test : A → Bool) (xs : List A) (i : ℕ) (d : A) → all test xs ≡ true → i < length xs → test (get_or xs i d) ≡ true
unfolding all
all-at test [] i d e h = absurd (omega arith)
all-at test (x ∷ xs) zero d e h = (and_parts (test x) (all test xs) e).0
all-at test (x ∷ xs) (suc i) d e h = all-at test xs i d (and_parts (test x) (all test xs) e).1 (omega arith)

pub all_append : {A : Type 0} (test : A → Bool) (xs ys : List A) → all test xs ≡ true → all test ys ≡ true → all test (xs ++ ys) ≡ true
unfolding all
all_append test [] ys ex ey = ey
all_append test (x ∷ xs) ys ex ey = let p = and_parts (test x) (all test xs) ex in and_from (test x) (all test (xs ++ ys)) p.0 (all_append test xs ys p.1 ey)

pub all_take : {A : Type 0} (test : A → Bool) (k : ℕ) (xs : List A) → all test xs ≡ true → all test (take k xs) ≡ true
unfolding all
all_take test zero xs e = refl
all_take test (suc k) [] e = refl
all_take test (suc k) (x ∷ xs) e = let p = and_parts (test x) (all test xs) e in and_from (test x) (all test (take k xs)) p.0 (all_take test k xs p.1)

pub all-select : {A : Type 0} (test keep : A → Bool) (xs : List A) → all test xs ≡ true → all test (select keep xs) ≡ true
unfolding all gather
all-select test keep [] e = refl
all-select test keep (x ∷ xs) e = go (keep x) (and_parts (test x) (all test xs) e).0 (all-select test keep xs (and_parts (test x) (all test xs) e).1)
  where
    go : (b : Bool) → test x ≡ true → all test (select keep xs) ≡ true → all test (cond b (x ∷ select keep xs) (select keep xs)) ≡ true
    go true h k = and_from (test x) (all test (select keep xs)) h k
    go false h k = k

pub all-each : {A B : Type 0} (test : B → Bool) (give : A → List B) (xs : List A) → ((x : A) → all test (give x) ≡ true) → all test (each give xs) ≡ true
unfolding all each
all-each test give [] h = refl
all-each test give (x ∷ xs) h = all_append test (give x) (each give xs) (h x) (all-each test give xs h)

pub all_if : {A : Type 0} (test : A → Bool) (b : Bool) (x : A) → (b ≡ true → test x ≡ true) → all test (cond b (x ∷ []) []) ≡ true
unfolding all
all_if test true x h = and_from (test x) true (h refl) refl
all_if test false x h = refl

-- ---- a list made of what a test lets through
pub pick_skip : {A B : Type 0} (test : A → Bool) (change : A → B) (xs : List A) (i : ℕ) (d : A) → i < length xs → test (get_or xs i d) ≡ false → pick test change (drop i xs) ≡ pick test change (drop (i + 1) xs)
unfolding gather
pick_skip test change xs i d h e =
    ap (pick test change) (drop_more xs i d h) ∙ ap (λ b. cond b (change (get_or xs i d) ∷ pick test change (drop (i + 1) xs)) (pick test change (drop (i + 1) xs))) e

-- out, and one more that the test lets through
pub pick_push : {A B : Type 0} (test : A → Bool) (change : A → B) (xs : List A) (i : ℕ) (d : A) (out new : List B) (y : B) → i < length xs → test (get_or xs i d) ≡ true → y ≡ change (get_or xs i d) → new ≡ out ++ y ∷ [] →
    new ++ pick test change (drop (i + 1) xs) ≡ out ++ pick test change (drop i xs)
unfolding gather
pick_push test change xs i d out new y h e is adds =
    let rest = pick test change (drop (i + 1) xs) in
    ap (λ l. l ++ rest) adds ∙ append_assoc out (y ∷ []) rest ∙ ap (λ z. out ++ z ∷ rest) is ∙
    ap (λ l. out ++ l) (sym (ap (pick test change) (drop_more xs i d h) ∙ ap (λ b. cond b (change (get_or xs i d) ∷ rest) rest) e))
