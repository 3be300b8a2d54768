-- Barred regions from the last word to the first; and the regions of a set are those of its words. Assumes nothing.
use Rattle.std.proofs.Common.{◌≡◌, ℕ, Bool, true, false, cond, ◌&&◌, ◌||◌, eqb, ltb, List, [], ◌∷◌, length, drop, refl, ap, ◌∙◌}
use Rattle.std.proofs.lemmas.Bool.{and_from, and_left}
use Rattle.values.specs.Fold.{all, any, gather, select}
use Rattle.geography.specs.declared.region_set.RegionSet.{RegionSet}
use Rattle.geography.specs.RegionSet.{has, empty, Holds}
use Rattle.geography.proofs.Bitwise.{has_none}
use Rattle.position.proofs.Elements.{all_drop}
use Rattle.calls.specs.Words.{at, every_entry}
use Rattle.calls.proofs.Strict.{fails_from}

-- they are on a board of n regions, and the set has them
pub record Held (n : ℕ) (ws : List ℕ) (s : RegionSet) : Type 0 where
  pub low : all (λ w. ltb w n) ws ≡ true
  pub holds : Holds s ws

pub held_none : (n : ℕ) → Held n [] empty
unfolding all any
held_none n = record { low = refl; holds = has_none }

pub held_more : (n w : ℕ) (ws : List ℕ) (s t : RegionSet) → Held n ws s → ltb w n ≡ true → ((q : ℕ) → has t q ≡ (eqb q w || has s q)) → Held n (w ∷ ws) t
unfolding all any
held_more n w ws s t later low new = record { low = and_from (ltb w n) (all (λ w. ltb w n) ws) low later.low; holds = λ q. new q ∙ ap (λ b. eqb q w || b) (later.holds q) }

pub held_bad : (n i w : ℕ) (ws later : List ℕ) → drop i ws ≡ w ∷ later → ltb w n ≡ false → all (λ w. ltb w n) ws ≡ false
unfolding all
held_bad n i w ws later here high =
    fails_from (all (λ w. ltb w n) (drop i ws)) (all (λ w. ltb w n) ws) (all_drop (λ w. ltb w n) i ws)
    (ap (all (λ w. ltb w n)) here ∙ and_left (ltb w n) (all (λ w. ltb w n) later) high)

-- one word to an entry, to the end
pub every_word : (test : ℕ → Bool) (ws : List ℕ) → every_entry (length ws) 1 (λ vs. test (at vs 0)) ws ≡ all test ws
unfolding every_entry all
every_word test [] = refl
every_word test (w ∷ ws) = ap (λ b. test w && b) (every_word test ws)

pub select_same : (s t : ℕ → Bool) → ((q : ℕ) → s q ≡ t q) → (qs : List ℕ) → select s qs ≡ select t qs
unfolding gather
select_same s t e [] = refl
select_same s t e (q ∷ qs) = ap (λ b. cond b (q ∷ select s qs) (select s qs)) (e q) ∙ ap (λ l. cond (t q) (q ∷ l) l) (select_same s t e qs)
