-- Worked cases of retreats: the game after the moves, where a unit may go, who arrives, who is gone. Assumes nothing.
use Rattle.std.specs.Prelude.{◌≡◌, ℕ, true, false, List, [], ◌∷◌, Some, None, Option}
use Rattle.values.specs.Fold.{all}
use Rattle.board.specs.declared.order.Order.TheVariants.{Hold, SupportMove}
use Rattle.board.specs.declared.unit.Unit.{Unit}
use Rattle.game.specs.declared.phase.Phase.{Phase}
use Rattle.game.specs.declared.phase.Phase.TheVariants.{SpringMoves, SpringRetreats, AutumnMoves}
use Rattle.game.specs.declared.phase.Dislodged.{Dislodged}
use Rattle.game.specs.declared.text.Written.{Written}
use Rattle.game.specs.Game.{Game}
use Rattle.game.specs.Lawful.{lawful}
use Rattle.game.specs.Retreats.{may_retreat}
use Rattle.game.specs.Turn.{turn}
use Rattle.cases.specs.Position.{power_a, power_b, power_c, power_d, army, goes, crosses, orders, out_from, out_over_water}
use Rattle.cases.specs.Moves.{six_coasts}

-- a game on the six coasts, none of them a centre
abbrev pub on_six_coasts : Phase → List Unit → List Dislodged → List ℕ → Game
on_six_coasts p us ds qs =
    record { phase = p; units = us; dislodged = ds; barred = qs; owners = None ∷ None ∷ None ∷ None ∷ None ∷ None ∷ [] }

-- ---- the head-to-head, as a game
abbrev pub before_head_on : Game
before_head_on = on_six_coasts SpringMoves (army power_a 0 ∷ army power_b 1 ∷ army power_a 2 ∷ []) [] []

abbrev pub after_head_on : Game
after_head_on = on_six_coasts SpringRetreats (army power_a 1 ∷ army power_a 2 ∷ []) (out_from 0 (army power_b 1) ∷ []) (0 ∷ [])

-- The winner of a head-to-head stands in its new region, and the loser may still retreat.
abbrev pub HeadToHeadPlayed : Type 0
HeadToHeadPlayed = turn six_coasts before_head_on (orders power_a 0 (goes 1) ∷ orders power_b 1 (goes 0) ∷ orders power_a 2 (SupportMove 0 1) ∷ []) ≡ after_head_on

abbrev pub without_bars : Game
without_bars = on_six_coasts SpringRetreats (army power_a 1 ∷ army power_a 2 ∷ []) (out_from 0 (army power_b 1) ∷ []) []

-- The loser may retreat to an empty region, but not to one where somebody stands.
abbrev pub RetreatToEmptyRegionOnly : Type 0
RetreatToEmptyRegionOnly =
    (may_retreat six_coasts after_head_on (out_from 0 (army power_b 1)) 3 ≡ true) ×
    ((may_retreat six_coasts after_head_on (out_from 0 (army power_b 1)) 1 ≡ false) × (may_retreat six_coasts after_head_on (out_from 0 (army power_b 1)) 2 ≡ false))

-- It may not retreat to where the attack came from. The bar alone forbids it, and the region of the attack alone forbids it; without both it might.
abbrev pub NoRetreatToAttackersRegion : Type 0
NoRetreatToAttackersRegion =
    (may_retreat six_coasts after_head_on (out_from 0 (army power_b 1)) 0 ≡ false) ×
    ((may_retreat six_coasts without_bars (out_from 0 (army power_b 1)) 0 ≡ false) ×
    ((may_retreat six_coasts after_head_on (out_over_water (army power_b 1)) 0 ≡ false) × (may_retreat six_coasts without_bars (out_over_water (army power_b 1)) 0 ≡ true)))

-- A retreat to an empty region succeeds; then nobody is dislodged any more, and nothing is barred.
abbrev pub RetreatSucceeds : Type 0
RetreatSucceeds =
    turn six_coasts after_head_on (orders power_b 1 (goes 3) ∷ []) ≡ on_six_coasts AutumnMoves (army power_a 1 ∷ army power_a 2 ∷ army power_b 3 ∷ []) [] []

abbrev pub loser_gone : Game
loser_gone = on_six_coasts AutumnMoves (army power_a 1 ∷ army power_a 2 ∷ []) [] []

-- With no text, two texts, another power's text, a hold, a move over water, or a move to where it may not go, the dislodged unit is gone.
abbrev pub WithoutRetreatGone : Type 0
WithoutRetreatGone =
    (turn six_coasts after_head_on [] ≡ loser_gone) ×
    ((turn six_coasts after_head_on (orders power_b 1 (goes 3) ∷ orders power_b 1 (goes 3) ∷ []) ≡ loser_gone) ×
    ((turn six_coasts after_head_on (orders power_a 1 (goes 3) ∷ []) ≡ loser_gone) × ((turn six_coasts after_head_on (orders power_b 1 Hold ∷ []) ≡ loser_gone) ×
    ((turn six_coasts after_head_on (orders power_b 1 (crosses 3) ∷ []) ≡ loser_gone) × (turn six_coasts after_head_on (orders power_b 1 (goes 0) ∷ []) ≡ loser_gone)))))

-- ---- an attack on a unit that holds bars nothing
-- The region of the attack is empty and isn't barred, and closed to this retreat all the same.
abbrev pub OpenRegionOfAttackClosed : Type 0
OpenRegionOfAttackClosed =
    (turn six_coasts before_head_on (orders power_a 0 (goes 1) ∷ orders power_b 1 Hold ∷ orders power_a 2 (SupportMove 0 1) ∷ []) ≡ without_bars) ×
    (turn six_coasts without_bars (orders power_b 1 (goes 0) ∷ []) ≡ loser_gone)

-- ---- two retreats
abbrev pub two_out : Option ℕ → Game
two_out from = on_six_coasts SpringRetreats (army power_a 1 ∷ army power_d 2 ∷ []) (record { unit = army power_b 1; from = from } ∷ out_from 3 (army power_c 2) ∷ []) []

abbrev pub both_to_five : List Written
both_to_five = orders power_b 1 (goes 5) ∷ orders power_c 2 (goes 5) ∷ []

-- Two retreats to one region: both are gone.
abbrev pub RetreatsCollide : Type 0
RetreatsCollide = turn six_coasts (two_out (Some 0)) both_to_five ≡ on_six_coasts AutumnMoves (army power_a 1 ∷ army power_d 2 ∷ []) [] []

-- What is no retreat stands in nobody's way: one of the two was attacked from that region, and the other arrives.
abbrev pub ForbiddenRetreatStopsNobody : Type 0
ForbiddenRetreatStopsNobody =
    turn six_coasts (two_out (Some 5)) both_to_five ≡ on_six_coasts AutumnMoves (army power_a 1 ∷ army power_d 2 ∷ army power_c 5 ∷ []) [] []

abbrev pub nobody_stands : Game
nobody_stands = on_six_coasts SpringRetreats [] (out_from 0 (army power_b 1) ∷ out_from 3 (army power_c 2) ∷ []) []

-- A region in which only a dislodged unit is left is empty.
abbrev pub RetreatIntoLeftRegion : Type 0
RetreatIntoLeftRegion =
    turn six_coasts nobody_stands (orders power_b 1 (goes 2) ∷ orders power_c 2 (goes 4) ∷ []) ≡ on_six_coasts AutumnMoves (army power_b 2 ∷ army power_c 4 ∷ []) [] []

-- All these games are lawful.
abbrev pub RetreatGamesLawful : Type 0
RetreatGamesLawful = all (lawful six_coasts) (before_head_on ∷ after_head_on ∷ without_bars ∷ loser_gone ∷ two_out (Some 0) ∷ two_out (Some 5) ∷ nobody_stands ∷ []) ≡ true
