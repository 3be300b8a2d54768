-- The lines of those who leave are the lines of the retreats. Assumes nothing.
use Rattle.std.proofs.Common.{◌≡◌, ℕ, suc, Bool, true, false, cond, eqb, List, [], ◌∷◌, map, length, Some, None, Option, sym, refl, ap, ◌∙◌}
use Rattle.std.specs.List.{zip}
use Rattle.values.specs.Fold.{gather, number}
use Rattle.board.specs.Board.{Board}
use Rattle.game.specs.declared.phase.Dislodged.{Dislodged}
use Rattle.game.specs.declared.text.Written.{Written}
use Rattle.game.specs.Game.{Game}
use Rattle.game.specs.Retreats.{is_just, retreat_of}
use Rattle.retreats.specs.Retreating.{goals_in}
use Rattle.tables.specs.Stands.{first_at}
use Rattle.show.specs.declared.leaving.Leaving.{Leaving}
use Rattle.show.specs.Words.{Names}
use Rattle.show.specs.Game.{by_region, dislodged_at}
use Rattle.show.specs.Reports.{alone, goal_line, retreat_line, retreat_lines}
use Rattle.show.specs.Tables.{leaving, leaving_line}
use Rattle.show.proofs.Lines.{same_lines}

-- so many goals in t as there are who go there
pub goals_of : (goal : Dislodged → Option ℕ) (t : ℕ) (ds : List Dislodged) → goals_in t (map goal ds) ≡ number (λ d. is_just t (goal d)) ds
unfolding gather
goals_of goal t [] = refl
goals_of goal t (d ∷ ds) = ap (λ k. cond (is_just t (goal d)) (suc k) k) (goals_of goal t ds)

alone_of : (goal : Dislodged → Option ℕ) (o : Option ℕ) (ds : List Dislodged) → alone (λ t. goals_in t (map goal ds)) o ≡ alone (λ t. number (λ d. is_just t (goal d)) ds) o
alone_of goal None ds = refl
alone_of goal (Some t) ds = ap (λ k. eqb k 1) (goals_of goal t ds)

abbrev leaves : (Dislodged → Option ℕ) → Option Dislodged → Option Leaving
leaves goal None = None
leaves goal (Some d) = Some (leaving (d, goal d))

-- who leaves a region is who was dislodged there
first_leaving : (goal : Dislodged → Option ℕ) (r : ℕ) (ds : List Dislodged) → first_at (λ x. x.unit) r (map leaving (zip ds (map goal ds))) ≡ leaves goal (dislodged_at ds r)
unfolding gather
first_leaving goal r [] = refl
first_leaving goal r (d ∷ ds) = go (eqb r d.unit.region) (first_leaving goal r ds)
  where
    go : (t : Bool) → first_at (λ x. x.unit) r (map leaving (zip ds (map goal ds))) ≡ leaves goal (dislodged_at ds r) →
        cond t (Some (leaving (d, goal d))) (first_at (λ x. x.unit) r (map leaving (zip ds (map goal ds)))) ≡ leaves goal (cond t (Some d) (dislodged_at ds r))
    go true e = refl
    go false e = e

lines_of_goals : (names : Names) (goal : Dislodged → Option ℕ) (ds : List Dislodged) (n : ℕ) →
    by_region n (λ r. leaving_line names (λ t. goals_in t (map goal ds)) (first_at (λ x. x.unit) r (map leaving (zip ds (map goal ds))))) ≡ by_region n (λ r. retreat_line names (λ t. number (λ d. is_just t (goal d)) ds) goal (dislodged_at ds r))
lines_of_goals names goal ds n = same_lines _ _ n (λ r l. ap (leaving_line names (λ t. goals_in t (map goal ds))) (first_leaving goal r ds) ∙ line (dislodged_at ds r))
  where
    line : (o : Option Dislodged) → leaving_line names (λ t. goals_in t (map goal ds)) (leaves goal o) ≡ retreat_line names (λ t. number (λ d. is_just t (goal d)) ds) goal o
    line None = refl
    line (Some d) = ap (λ b. goal_line names b d.unit (goal d)) (alone_of goal (goal d) ds)

pub leaving_lines : (names : Names) (m : Board) (g : Game) (ws : List Written) (goals : List (Option ℕ)) (ds : List Dislodged) (n : ℕ) → length m.regions ≡ n → g.dislodged ≡ ds → goals ≡ map (retreat_of m g ws) g.dislodged →
    by_region n (λ r. leaving_line names (λ t. goals_in t goals) (first_at (λ x. x.unit) r (map leaving (zip ds goals)))) ≡ retreat_lines names m g ws
leaving_lines names m g ws goals ds n wide same each =
    ap (λ gs. by_region n (λ r. leaving_line names (λ t. goals_in t gs) (first_at (λ x. x.unit) r (map leaving (zip ds gs))))) (each ∙ ap (map (retreat_of m g ws)) same) ∙
    lines_of_goals names (retreat_of m g ws) ds n ∙
    ap (λ l. by_region n (λ r. retreat_line names (λ t. number (λ d. is_just t (retreat_of m g ws d)) l) (retreat_of m g ws) (dislodged_at l r))) (sym same) ∙
    ap (λ k. by_region k (λ r. retreat_line names (λ t. number (λ d. is_just t (retreat_of m g ws d)) g.dislodged) (retreat_of m g ws) (dislodged_at g.dislodged r))) (sym wide)
