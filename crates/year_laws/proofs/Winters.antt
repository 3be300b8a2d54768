-- A whole winter: each power's turn decides over its own units alone, so what its turn says is true of the winter.
use Rattle.std.proofs.Common.{◌≡◌, ℕ, zero, suc, ◌-◌, ◌<◌, ◌≤◌, cond, ltb, ◌↔◌, List, sym, refl, ap, ◌∙◌, subst, inl, inr, arith}
use mathlib.Core.List.{Memᴰ}
use Rattle.std.proofs.lemmas.Bool.{cases_Bool, ltb-true, ltb-false, lt-ltb, le-ltb, eq-eqb}
use Rattle.board.specs.Board.{Board, powers}
use Rattle.board.specs.declared.unit.Unit.{Unit}
use Rattle.game.specs.declared.text.Written.{Written}
use Rattle.game.specs.Game.{Game}
use Rattle.game.specs.Winter.{units_of, centres_of, disbanded, built, winter_of, winters, units_after_winter}
use Rattle.game.specs.Lawful.{Lawful}
use Rattle.game.specs.Turn.{turn_in}
use Rattle.year_laws.specs.WinterLaw.{Disbands, Buildable, Builds, PowerWinter, WinterLaw}
use Rattle.year_laws.proofs.Sorted.{part_mem}
use Rattle.year_laws.proofs.LawfulFacts.{Fine, fine_units}
use Rattle.year_laws.proofs.Winter.{disbanded_part, disbanded_count, disbanded_order, Allowed, built_old, built-at, built_few, built_order, built-full, winter_of_fine, winter_of_others, winter_of_others_count}

both_ways : {A B C : Type 0} → (A ↔ B) → (B ↔ C) → A ↔ C
both_ways f g = (λ a. g.0 (f.0 a), λ c. f.1 (g.1 c))

module _ (m : Board) (g : Game) (ws : List Written) (l : Lawful m g) where
  -- the units when power n's turn comes
  abbrev units_at : ℕ → List Unit
  units_at n = winters m g.owners ws n g.units

  step : (n : ℕ) → units_at (suc n) ≡ winter_of m g.owners ws n (units_at n)
  unfolding winters
  step n = refl

  pub winters_fine : (n : ℕ) → n ≤ powers → Fine m (units_at n)
  unfolding winters
  winters_fine zero h = fine_units l
  winters_fine (suc n) h = winter_of_fine m g.owners ws n (units_at n) (winters_fine n (omega arith)) h

  -- ---- what other powers' turns leave alone
  step_others : (n : ℕ) → n < powers → (u : Unit) → (u.power ≡ n → ⊥) → Memᴰ u (units_at n) ↔ Memᴰ u (units_at (suc n))
  step_others n h u k = subst (λ us. Memᴰ u (units_at n) ↔ Memᴰ u us) (sym (step n)) (winter_of_others m g.owners ws n (units_at n) (winters_fine n (omega arith)) u k)

  step_count : (n : ℕ) → n < powers → (s : ℕ) → (s ≡ n → ⊥) → units_of s (units_at (suc n)) ≡ units_of s (units_at n)
  step_count n h s k = ap (units_of s) (step n) ∙ winter_of_others_count m g.owners ws n (units_at n) (winters_fine n (omega arith)) s k

  earlier : (n : ℕ) → n ≤ powers → (u : Unit) → n ≤ u.power → Memᴰ u g.units ↔ Memᴰ u (units_at n)
  unfolding winters
  earlier zero h u k = (λ i. i, λ i. i)
  earlier (suc n) h u k = both_ways (earlier n (omega arith) u (omega arith)) (step_others n h u (λ e. omega arith))

  earlier_count : (n : ℕ) → n ≤ powers → (s : ℕ) → n ≤ s → units_of s (units_at n) ≡ units_of s g.units
  unfolding winters
  earlier_count zero h s k = refl
  earlier_count (suc n) h s k = step_count n h s (λ e. omega arith) ∙ earlier_count n (omega arith) s (omega arith)

  -- once a power's turn is over its units are as they will be
  later : (q n : ℕ) → n ≤ q → q ≤ powers → (u : Unit) → u.power < n → Memᴰ u (units_at n) ↔ Memᴰ u (units_at q)
  later zero n k h u a = absurd (omega arith)
  later (suc q) n k h u a = elim (cases_Bool (ltb n (suc q))) [ inl e ↦ (let b : n ≤ q = omega (arith, ltb-true _ _ e) in both_ways (later q n b (omega arith) u a) (step_others q h u (λ f. omega arith))) | inr e ↦ (let f : n ≡ suc q = omega (arith, ltb-false _ _ e) in subst (λ j. Memᴰ u (units_at n) ↔ Memᴰ u (units_at j)) f (λ i. i, λ i. i)) ]

  later_count : (q n : ℕ) → n ≤ q → q ≤ powers → (s : ℕ) → s < n → units_of s (units_at q) ≡ units_of s (units_at n)
  later_count zero n k h s a = absurd (omega arith)
  later_count (suc q) n k h s a = elim (cases_Bool (ltb n (suc q))) [ inl e ↦ (let b : n ≤ q = omega (arith, ltb-true _ _ e) in step_count q h s (λ f. omega arith) ∙ later_count q n b (omega arith) s a) | inr e ↦ (let f : suc q ≡ n = omega (arith, ltb-false _ _ e) in ap (λ j. units_of s (units_at j)) f) ]

  settled : (n : ℕ) → n ≤ powers → (u : Unit) → u.power < n → Memᴰ u (units_at n) ↔ Memᴰ u (units_at powers)
  settled n h u a = later powers n h (omega arith) u a

  -- ---- one power
  module _ (p : ℕ) (h : p < powers) where
    fine : Fine m (units_at p)
    fine = winters_fine p (omega arith)

    at_turn : (u : Unit) → u.power ≡ p → Memᴰ u g.units ↔ Memᴰ u (units_at p)
    at_turn u e = earlier p (omega arith) u (omega arith)

    counted : units_of p (units_at p) ≡ units_of p g.units
    counted = earlier_count p (omega arith) p (omega arith)

    over : (u : Unit) → u.power ≡ p → Memᴰ u (units_at (suc p)) ↔ Memᴰ u (units_at powers)
    over u e = settled (suc p) h u (omega arith)

    over_count : units_of p (units_at powers) ≡ units_of p (units_at (suc p))
    over_count = later_count powers (suc p) h (omega arith) p (omega arith)

    disbands_of : centres_of p g.owners < units_of p g.units → Disbands g ws p (units_at powers)
    disbands_of c =
        record {
          left = omega (arith, over_count, ap (units_of p) is, disbanded_count m g.owners ws p (units_at p) fine k (omega arith), counted);
          stood = λ u e i. (at_turn u e).1 (part_mem (disbanded_part m g.owners ws p (units_at p) fine k) u (back u e i));
          order = λ u v e f i n j. disbanded_order m g.owners ws p (units_at p) fine k u v (eq-eqb _ _ (sym e)) (eq-eqb _ _ (sym f)) ((at_turn u e).0 i) (λ q. n ((over u e).0 (subst (λ us. Memᴰ u us) (sym is) q))) (back v f j);
        }
      where
        k : ℕ
        k = units_of p (units_at p) - centres_of p g.owners

        is : units_at (suc p) ≡ disbanded m p ws (units_of p (units_at p) - centres_of p g.owners) (units_at p)
        is = step p ∙ ap (λ b. cond b (disbanded m p ws (units_of p (units_at p) - centres_of p g.owners) (units_at p)) (built m p g.owners ws (centres_of p g.owners - units_of p (units_at p)) (units_at p))) (lt-ltb _ _ (omega (arith, counted)))

        back : (u : Unit) → u.power ≡ p → Memᴰ u (units_at powers) → Memᴰ u (disbanded m p ws (units_of p (units_at p) - centres_of p g.owners) (units_at p))
        back u e i = subst (λ us. Memᴰ u us) is ((over u e).1 i)

    buildable_of : (u : Unit) → Allowed m g.owners ws p (units_at p) fine u → Buildable m g ws p (units_at powers) u
    buildable_of u a =
        record {
          power = a.power;
          wrote = a.wrote;
          can = a.can;
          home = a.home;
          owned = a.owned;
          free_of_lower = λ v q i e. a.empty v ((settled p (omega arith) v q).1 i) e;
          free_of_others = λ v q i e. a.empty v ((earlier p (omega arith) v q).0 i) e;
        }

    allowed_of : (u : Unit) → Buildable m g ws p (units_at powers) u → Allowed m g.owners ws p (units_at p) fine u
    allowed_of u b = record { power = b.power; wrote = b.wrote; can = b.can; home = b.home; owned = b.owned; empty = empty }
      where
        empty : (v : Unit) → Memᴰ v (units_at p) → v.region ≡ u.region → ⊥
        empty v i e = elim (cases_Bool (ltb v.power p)) [ inl q ↦ b.free_of_lower v (ltb-true _ _ q) ((settled p (omega arith) v (ltb-true _ _ q)).0 i) e | inr q ↦ b.free_of_others v (ltb-false _ _ q) ((earlier p (omega arith) v (ltb-false _ _ q)).1 i) e ]

    builds_of : units_of p g.units ≤ centres_of p g.owners → Builds m g ws p (units_at powers)
    builds_of c =
        record {
          stay = λ u e i. forth u e (built_old m g.owners ws p (units_at p) fine k u ((at_turn u e).0 i));
          new = λ u e i. elim (built-at m g.owners ws p (units_at p) fine k u (back u e i)) [ inl j ↦ inl ((at_turn u e).1 j) | inr a ↦ inr (buildable_of u a) ];
          few = omega (arith, over_count, ap (units_of p) is, built_few m g.owners ws p (units_at p) fine k, counted);
          order = λ u v a b q i. forth u a.power (built_order m g.owners ws p (units_at p) fine k u v (allowed_of u a) (allowed_of v b) q (back v b.power i));
          full = λ u a n. omega (arith, over_count, ap (units_of p) is, built-full m g.owners ws p (units_at p) fine k u (allowed_of u a) (λ q. n (forth u a.power q)), counted);
        }
      where
        k : ℕ
        k = centres_of p g.owners - units_of p (units_at p)

        is : units_at (suc p) ≡ built m p g.owners ws (centres_of p g.owners - units_of p (units_at p)) (units_at p)
        is = step p ∙ ap (λ b. cond b (disbanded m p ws (units_of p (units_at p) - centres_of p g.owners) (units_at p)) (built m p g.owners ws (centres_of p g.owners - units_of p (units_at p)) (units_at p))) (le-ltb _ _ (omega (arith, counted)))

        back : (u : Unit) → u.power ≡ p → Memᴰ u (units_at powers) → Memᴰ u (built m p g.owners ws (centres_of p g.owners - units_of p (units_at p)) (units_at p))
        back u e i = subst (λ us. Memᴰ u us) is ((over u e).1 i)

        forth : (u : Unit) → u.power ≡ p → Memᴰ u (built m p g.owners ws (centres_of p g.owners - units_of p (units_at p)) (units_at p)) → Memᴰ u (units_at powers)
        forth u e i = (over u e).0 (subst (λ us. Memᴰ u us) (sym is) i)

    pub power_winter : PowerWinter m g ws p (units_after_winter m g.owners ws g.units)
    power_winter = record { disbands = disbands_of; builds = builds_of }

pub winter_law : WinterLaw
winter_law m g ws l e p h = subst (λ q. PowerWinter m g ws p (turn_in q m g ws).units) (sym e) (power_winter m g ws l p h)
