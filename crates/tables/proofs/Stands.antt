-- A table of who stands in each region, filled from the last to the first. Assumes nothing.
use Rattle.std.proofs.Common.{◌≡◌, ℕ, ◌<◌, cond, List, [], ◌∷◌, length, set, replicate, Some, None, Option, sym, refl, ap, ◌∙◌}
use Rattle.std.proofs.lemmas.Bool.{eq-eqb, ne_eqb}
use Rattle.values.specs.Fold.{gather}
use Rattle.board.specs.declared.unit.Unit.{Unit}
use Rattle.tables.specs.Stands.{first_at, Tabled}
use Rattle.tables.proofs.Regions.{region_none, region_put}

-- what is None alone
pub none_alone : {X : Type 0} (R : Option X → Type 0) → ((x : X) → R (Some x) → ⊥) → (o : Option X) → R o → o ≡ None
none_alone R never None h = refl
none_alone R never (Some x) h = absurd (never x h)

module _ {X : Type 0} (piece : X → Unit) where
  pub nobody_stands : (table : List (Option X)) → table ≡ replicate 256 None → Tabled piece table []
  unfolding gather
  nobody_stands table e = region_none None (first_at piece) table (λ r. refl) e

  -- one more in front of the others
  pub one_stands : (table : List (Option X)) (x : X) (xs : List X) (q : ℕ) → q < length table → q ≡ (piece x).region → Tabled piece table xs → Tabled piece (set table q (Some x)) (x ∷ xs)
  unfolding gather
  one_stands table x xs q room at old =
      region_put None (first_at piece) table xs x q (Some x) room (ap (λ t. cond t (Some x) (first_at piece q xs)) (eq-eqb q (piece x).region at)) (λ r apart. ap (λ t. cond t (Some x) (first_at piece r xs)) (ne_eqb r (piece x).region (λ e. apart (e ∙ sym at)))) old
