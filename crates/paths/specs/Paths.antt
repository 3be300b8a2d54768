-- Paths over water (the club: ways), as far as they are decided. Assumes nothing.
use Rattle.std.specs.Prelude.{ℕ, zero, suc, Bool, cond, not, ◌&&◌, List, [], ◌∷◌, map, length}
use Rattle.values.specs.Fold.{gather, any}
use Rattle.values.specs.declared.tri.Tri.{Tri}
use Rattle.values.specs.declared.tri.Tri.TheVariants.{No, Open, Yes}
use Rattle.values.specs.Tri.{is_yes, is_no}
use Rattle.geography.specs.Links.{linked}
use Rattle.board.specs.Board.{Board}
use Rattle.board.specs.Order.{is_convoyed, aim, convoys}
use Rattle.assignment.specs.declared.resolution.Resolution.{Resolution}
use Rattle.assignment.specs.Assignment.{dislodged}

-- whether some region of the list is joined to r for fleets
abbrev pub touches : Board → ℕ → List ℕ → Bool
touches m r qs = any (λ q. linked r q m.sail) qs

-- a fleet that carries just from f to t, that the test counts, beside what is reached
abbrev pub carrier : Board → (Resolution → Bool) → ℕ → ℕ → List ℕ → Resolution → Bool
carrier m counts f t qs x = (convoys f t x.order && counts x) && touches m x.unit.region qs

-- the regions of all such fleets, and what was reached before
abbrev pub reached : Board → (Resolution → Bool) → ℕ → ℕ → List ℕ → List Resolution → List ℕ
reached m counts f t qs xs = gather (carrier m counts f t qs) (λ x rest. x.unit.region ∷ rest) qs xs

-- the same so many times over
unfoldable pub flood : ℕ → Board → (Resolution → Bool) → ℕ → ℕ → List Resolution → List ℕ → List ℕ
flood zero m counts f t xs qs = qs
flood (suc n) m counts f t xs qs = flood n m counts f t xs (reached m counts f t qs xs)

-- some such fleet lies beside t
abbrev pub lands : Board → (Resolution → Bool) → ℕ → ℕ → List ℕ → List Resolution → Bool
lands m counts f t qs xs = any (λ x. carrier m counts f t qs x && linked x.unit.region t m.sail) xs

-- a chain of fleets from f to t; at first only f is reached
abbrev pub chain : Board → (Resolution → Bool) → ℕ → ℕ → List Resolution → Bool
chain m counts f t xs = lands m counts f t (flood (length xs) m counts f t xs (f ∷ [])) xs

-- the fleets that are surely not dislodged, and those that are not surely dislodged
abbrev pub surely_stays : List Resolution → Resolution → Bool
surely_stays xs x = is_no (dislodged x xs)

abbrev pub may_stay : List Resolution → Resolution → Bool
may_stay xs x = not (is_yes (dislodged x xs))

-- a move over land has a path; one over water has it if there is a chain, unless the paradox rule took it
abbrev pub path : Board → Resolution → List Resolution → Tri
path m x xs =
    cond (not (is_convoyed x.order)) Yes
    (cond x.stranded No
    (cond (chain m (surely_stays xs) x.unit.region (aim x.order) xs) Yes
    (cond (chain m (may_stay xs) x.unit.region (aim x.order) xs) Open No)))

-- the path of each
abbrev pub paths_of : Board → List Resolution → List Tri
paths_of m xs = map (λ x. path m x xs) xs

-- whether each is dislodged
abbrev pub dislodged_of : List Resolution → List Tri
dislodged_of xs = map (λ x. dislodged x xs) xs
