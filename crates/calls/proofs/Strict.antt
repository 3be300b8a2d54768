-- An entry that the code can't make is not in a good board or a lawful game. Assumes nothing.
use Rattle.std.proofs.Common.{◌≡◌, ℕ, zero, suc, Bool, true, false, not, eqb, ltb, leb, List, [], ◌∷◌, map, length, drop, refl, ap}
use Rattle.std.proofs.lemmas.Bool.{and_parts, and_from, and_left, and_right, both_ways}
use Rattle.values.specs.Fold.{all}
use Rattle.board.specs.Board.{Board, on_board, can_stand, good_edge, good_board, is_power}
use Rattle.calls.specs.declared.verdict.Refusal.{Refusal}
use Rattle.calls.specs.declared.fault.Fault.{Fault}
use Rattle.calls.specs.declared.fault.Fault.TheVariants.{Refused, NoMemory}
use Rattle.calls.specs.Words.{at, entries, every_entry}
use Rattle.calls.specs.Read.{RefusedUnless}
use Rattle.calls.specs.Begin.{edge_in}
use Rattle.calls.specs.Strict.{ends_on}

-- a refusal handed on
pub handed_on : (part whole : Bool) (v : Refusal) (e : Fault) → (part ≡ false → whole ≡ false) → RefusedUnless part v e → RefusedUnless whole v e
handed_on part whole v (Refused u) f h = (f h.0, h.1)
handed_on part whole v NoMemory f h = tt

-- what fails where it follows from what holds
pub fails_from : (a b : Bool) → (b ≡ true → a ≡ true) → a ≡ false → b ≡ false
fails_from a true f h = absurd (both_ways a h (f refl))
fails_from a false f h = refl

-- good words whose entries pass are good by a stricter test
pub all_from : {A : Type 0} (good strict : List ℕ → Bool) (test : A → Bool) (read : List ℕ → A) → ((ws : List ℕ) → good ws ≡ true → test (read ws) ≡ true → strict ws ≡ true) →
    (es : List (List ℕ)) → all good es ≡ true → all test (map read es) ≡ true → all strict es ≡ true
unfolding all
all_from good strict test read f [] h k = refl
all_from good strict test read f (ws ∷ es) h k =
    let g = and_parts (good ws) (all good es) h in
    let t = and_parts (test (read ws)) (all test (map read es)) k in
    and_from (strict ws) (all strict es) (f ws g.0 t.0) (all_from good strict test read f es g.1 t.1)

-- the test that lets everything through
all_true : {A : Type 0} (xs : List A) → all (λ x. true) xs ≡ true
unfolding all
all_true [] = refl
all_true (x ∷ xs) = all_true xs

pub all_weaker : {A : Type 0} (strict good : A → Bool) → ((x : A) → strict x ≡ true → good x ≡ true) → (xs : List A) → all strict xs ≡ true → all good xs ≡ true
unfolding all
all_weaker strict good f [] h = refl
all_weaker strict good f (x ∷ xs) h =
    let g = and_parts (strict x) (all strict xs) h in
    and_from (good x) (all good xs) (f x g.0) (all_weaker strict good f xs g.1)

pub length-entries : {A : Type 0} (n w : ℕ) (read : List ℕ → A) (ws : List ℕ) → length (entries n w read ws) ≡ n
unfolding entries
length-entries zero w read ws = refl
length-entries (suc n) w read ws = ap suc (length-entries n w read (drop w ws))

-- good words whose entries pass are good by a stricter test
pub every_from : {A : Type 0} (good strict : List ℕ → Bool) (test : A → Bool) (read : List ℕ → A) (w : ℕ) → ((ws : List ℕ) → good ws ≡ true → test (read ws) ≡ true → strict ws ≡ true) →
    (n : ℕ) (ws : List ℕ) → every_entry n w good ws ≡ true → all test (entries n w read ws) ≡ true → every_entry n w strict ws ≡ true
unfolding every_entry entries all
every_from good strict test read w f zero ws h k = refl
every_from good strict test read w f (suc n) ws h k =
    let g = and_parts (good ws) (every_entry n w good (drop w ws)) h in
    let t = and_parts (test (read ws)) (all test (entries n w read (drop w ws))) k in
    and_from (strict ws) (every_entry n w strict (drop w ws)) (f ws g.0 t.0) (every_from good strict test read w f n (drop w ws) g.1 t.1)

-- the test that lets everything through
pub every_true : (n w : ℕ) (ws : List ℕ) → every_entry n w (λ vs. true) ws ≡ true
unfolding every_entry
every_true zero w ws = refl
every_true (suc n) w ws = every_true n w (drop w ws)

pub every_weaker : (strict good : List ℕ → Bool) (w : ℕ) → ((ws : List ℕ) → strict ws ≡ true → good ws ≡ true) → (n : ℕ) (ws : List ℕ) → every_entry n w strict ws ≡ true → every_entry n w good ws ≡ true
unfolding every_entry
every_weaker strict good w f zero ws h = refl
every_weaker strict good w f (suc n) ws h =
    let g = and_parts (strict ws) (every_entry n w strict (drop w ws)) h in
    and_from (good ws) (every_entry n w good (drop w ws)) (f ws g.0) (every_weaker strict good w f n (drop w ws) g.1)

-- ---- edges
edge_strict : (m : Board) (fleet : Bool) (ws : List ℕ) → good_edge m fleet (edge_in ws) ≡ true → ends_on (length m.regions) ws ≡ true
edge_strict m fleet ws h =
    let one = and_parts (can_stand m fleet (at ws 0)) _ h in
    let two = and_parts (can_stand m fleet (at ws 1)) (not (eqb (at ws 0) (at ws 1))) one.1 in
    and_from (ltb (at ws 0) (length m.regions)) (ltb (at ws 1) (length m.regions)) (and_parts (on_board m (at ws 0)) _ one.0).0 (and_parts (on_board m (at ws 1)) _ two.0).0

pub edges_bad : (m : Board) (fleet : Bool) (k : ℕ) (es : List (List ℕ)) → length m.regions ≡ k → all (ends_on k) es ≡ false → all (good_edge m fleet) (map edge_in es) ≡ false
edges_bad m fleet k es e h =
    fails_from (all (ends_on k) es) (all (good_edge m fleet) (map edge_in es))
    (λ good. rw (← e) (all_from (λ vs. true) (ends_on (length m.regions)) (good_edge m fleet) edge_in (λ vs _ t. edge_strict m fleet vs t) es (all_true es) good)) h

pub march_bad : (m : Board) → all (good_edge m false) m.march ≡ false → good_board m ≡ false
march_bad m h = and_right (leb (length m.regions) 128) _ (and_right (all (λ r. is_power r.home) m.regions) _ (and_left (all (good_edge m false) m.march) _ h))

pub sail_bad : (m : Board) → all (good_edge m true) m.sail ≡ false → good_board m ≡ false
sail_bad m h =
    and_right (leb (length m.regions) 128) _
    (and_right (all (λ r. is_power r.home) m.regions) _ (and_right (all (good_edge m false) m.march) (all (good_edge m true) m.sail) h))
