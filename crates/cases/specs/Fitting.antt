-- Worked cases counted: how many ways to answer all orders fit together, before the paradox rule and circular movement choose. Assumes nothing.
use Rattle.std.specs.Prelude.{◌≡◌, ℕ, Bool, cond, ◌||◌, List, [], ◌∷◌, ◌++◌, map}
use Rattle.values.specs.Fold.{all, number}
use Rattle.values.specs.declared.tri.Tri.{Tri}
use Rattle.values.specs.declared.tri.Tri.TheVariants.{No, Open, Yes}
use Rattle.values.specs.Tri.{is_yes, is_no, is_open}
use Rattle.board.specs.Board.{Board}
use Rattle.board.specs.Order.{is_move, is_support}
use Rattle.assignment.specs.declared.resolution.Resolution.{Resolution}
use Rattle.strength.specs.Decide.{decides}
use Rattle.deciding.specs.declared.report.Report.{Report}
use Rattle.deciding.specs.Outcome.{fresh}
use Rattle.cases.specs.Position.{given}
use Rattle.cases.specs.Moves.{six_coasts, bounce, ring}
use Rattle.cases.specs.Water.{two_seas, crossing, saving_cut}

abbrev pub answered : Tri → Resolution → Resolution
answered t x = record { unit = x.unit; order = x.order; value = t; stranded = x.stranded }

-- all ways to answer yes or no to each move and support; holds and convoys stand as no
unfoldable pub answers : List Resolution → List (List Resolution)
answers [] = [] ∷ []
answers (x ∷ xs) =
    cond (is_move x.order || is_support x.order) (map (λ ys. answered Yes x ∷ ys) (answers xs)) [] ++ map (λ ys. answered No x ∷ ys) (answers xs)

-- the answer is what all the others decide
abbrev pub agrees : Tri → Tri → Bool
agrees Yes t = is_yes t
agrees No t = is_no t
agrees Open t = is_open t

abbrev pub fits : Board → List Resolution → Bool
fits m xs = all (λ x. agrees x.value (decides m x xs x.order)) xs

abbrev pub fitting : Board → List Report → ℕ
fitting m rs = number (fits m) (answers (fresh m (given rs)))

-- Without a paradox and without a circular movement just one way fits.
abbrev pub BounceFitsOneWay : Type 0
BounceFitsOneWay = fitting six_coasts bounce ≡ 1

-- A circular movement may be closed or not: two ways fit, and it is closed.
abbrev pub RingFitsTwoWays : Type 0
RingFitsTwoWays = fitting six_coasts ring ≡ 2

-- If the carrier stays, the army cuts the support against it; if it is dislodged, the army has no path and cuts nothing: two ways fit, and the paradox rule chooses.
abbrev pub CrossingFitsTwoWays : Type 0
CrossingFitsTwoWays = fitting two_seas crossing ≡ 2

-- If the carrier stays, the army cuts the support that saves it; if it is dislodged, the army has no path, and the support saves it: no way fits.
abbrev pub SavedCarrierFitsNoWay : Type 0
SavedCarrierFitsNoWay = fitting two_seas saving_cut ≡ 0
