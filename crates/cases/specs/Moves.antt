-- Worked cases on land: bounces, support, head-to-head, circular movement, own power, cut support, orders as played. Assumes nothing.
use Rattle.std.specs.Prelude.{◌≡◌, true, List, [], ◌∷◌}
use Rattle.board.specs.declared.order.Order.TheVariants.{Hold, SupportHold, SupportMove, Convoy}
use Rattle.board.specs.Board.{Board, good_board}
use Rattle.deciding.specs.declared.report.Report.{Report}
use Rattle.deciding.specs.Outcome.{reports}
use Rattle.game.specs.declared.text.Text.TheVariants.{Build}
use Rattle.game.specs.Texts.{ordered}
use Rattle.cases.specs.Position.{coast, edge, power_a, power_b, power_c, power_d, army, goes, writes, orders, succeeds, fails, stays, falls, circles, Told, Bars, Dislodges, out_from}

-- six coasts, all joined for armies
abbrev pub six_coasts : Board
six_coasts =
    record {
      regions = coast ∷ coast ∷ coast ∷ coast ∷ coast ∷ coast ∷ [];
      march =
          edge 0 1 ∷ edge 0 2 ∷ edge 0 3 ∷ edge 0 4 ∷ edge 0 5 ∷ edge 1 2 ∷ edge 1 3 ∷ edge 1 4 ∷ edge 1 5 ∷ edge 2 3 ∷ edge 2 4 ∷ edge 2 5 ∷ edge 3 4 ∷ edge 3 5 ∷
          edge 4 5 ∷ [];
      sail = [];
    }

abbrev pub SixCoastsGood : Type 0
SixCoastsGood = good_board six_coasts ≡ true

-- ---- two moves to one region
abbrev pub bounce : List Report
bounce = fails (army power_a 0) (goes 2) ∷ fails (army power_b 1) (goes 2) ∷ []

-- Two moves of equal strength to an empty region both come to nothing, and the region is barred.
abbrev pub BounceBars : Type 0
BounceBars = Told six_coasts bounce × (Bars six_coasts bounce (2 ∷ []) × Dislodges six_coasts bounce [])

abbrev pub supported_move : List Report
supported_move = succeeds (army power_a 0) (goes 2) ∷ fails (army power_b 1) (goes 2) ∷ succeeds (army power_a 3) (SupportMove 0 2) ∷ []

-- With one support more, one of them succeeds; the region is barred all the same, as the other came to nothing there.
abbrev pub SupportWins : Type 0
SupportWins = Told six_coasts supported_move × (Bars six_coasts supported_move (2 ∷ []) × Dislodges six_coasts supported_move [])

-- ---- head-to-head
abbrev pub head_on : List Report
head_on = succeeds (army power_a 0) (goes 1) ∷ falls (army power_b 1) (goes 0) ∷ succeeds (army power_a 2) (SupportMove 0 1) ∷ []

-- Of two that move at each other the one with support succeeds; the other is dislodged, and the region that it moved to is barred.
abbrev pub HeadToHeadLoserDislodged : Type 0
HeadToHeadLoserDislodged = Told six_coasts head_on × (Bars six_coasts head_on (0 ∷ []) × Dislodges six_coasts head_on (out_from 0 (army power_b 1) ∷ []))

abbrev pub equal_head_on : List Report
equal_head_on = fails (army power_a 0) (goes 1) ∷ fails (army power_b 1) (goes 0) ∷ []

-- Of equal strength, they don't pass each other.
abbrev pub EqualsDoNotPass : Type 0
EqualsDoNotPass = Told six_coasts equal_head_on × (Bars six_coasts equal_head_on (0 ∷ 1 ∷ []) × Dislodges six_coasts equal_head_on [])

abbrev pub head_on_and_third : List Report
head_on_and_third =
    succeeds (army power_a 0) (goes 1) ∷ falls (army power_b 1) (goes 0) ∷ succeeds (army power_a 2) (SupportMove 0 1) ∷ succeeds (army power_c 3) (goes 0) ∷ []

-- Who lost a head-to-head keeps nobody out of the region that the winner left.
abbrev pub HeadToHeadLoserPreventsNobody : Type 0
HeadToHeadLoserPreventsNobody =
    Told six_coasts head_on_and_third × (Bars six_coasts head_on_and_third (0 ∷ []) × Dislodges six_coasts head_on_and_third (out_from 0 (army power_b 1) ∷ []))

-- ---- circular movement
abbrev pub ring : List Report
ring = circles (army power_a 0) (goes 1) ∷ circles (army power_b 1) (goes 2) ∷ circles (army power_c 2) (goes 0) ∷ []

-- Three that follow one another in a circle all succeed.
abbrev pub RingCloses : Type 0
RingCloses = Told six_coasts ring × (Bars six_coasts ring [] × Dislodges six_coasts ring [])

abbrev pub blocked_ring : List Report
blocked_ring = fails (army power_a 0) (goes 1) ∷ fails (army power_b 1) (goes 2) ∷ fails (army power_c 2) (goes 0) ∷ fails (army power_d 3) (goes 2) ∷ []

-- A fourth that moves to one of their regions stops them all.
abbrev pub RingBlocked : Type 0
RingBlocked = Told six_coasts blocked_ring × (Bars six_coasts blocked_ring (0 ∷ 1 ∷ 2 ∷ []) × Dislodges six_coasts blocked_ring [])

-- ---- against one's own power
abbrev pub helped_by_victim : List Report
helped_by_victim = fails (army power_a 0) (goes 1) ∷ succeeds (army power_b 2) (SupportMove 0 1) ∷ stays (army power_b 1) Hold ∷ []

-- Support of the power whose unit would be dislodged doesn't count against that unit, though the support itself succeeds.
abbrev pub OwnPowerSupportDoesNotDislodge : Type 0
OwnPowerSupportDoesNotDislodge = Told six_coasts helped_by_victim × (Bars six_coasts helped_by_victim (1 ∷ []) × Dislodges six_coasts helped_by_victim [])

abbrev pub helped_by_third : List Report
helped_by_third = succeeds (army power_a 0) (goes 1) ∷ succeeds (army power_c 2) (SupportMove 0 1) ∷ falls (army power_b 1) Hold ∷ []

-- The same support of a third power dislodges.
abbrev pub ThirdPowerSupportDislodges : Type 0
ThirdPowerSupportDislodges =
    Told six_coasts helped_by_third × (Bars six_coasts helped_by_third [] × Dislodges six_coasts helped_by_third (out_from 0 (army power_b 1) ∷ []))

abbrev pub against_own : List Report
against_own = fails (army power_a 0) (goes 1) ∷ succeeds (army power_b 2) (SupportMove 0 1) ∷ stays (army power_a 1) Hold ∷ []

-- No power dislodges its own unit, whoever supports it.
abbrev pub OwnUnitStays : Type 0
OwnUnitStays = Told six_coasts against_own × (Bars six_coasts against_own (1 ∷ []) × Dislodges six_coasts against_own [])

-- ---- support that is cut, and support that isn't
abbrev pub attacked_from_target : List Report
attacked_from_target = succeeds (army power_a 0) (SupportMove 1 2) ∷ succeeds (army power_b 1) (goes 2) ∷ falls (army power_c 2) (goes 0) ∷ []

-- A move from the region that the support is aimed at doesn't cut it, if it comes to nothing.
abbrev pub SupportNotCutFromItsTarget : Type 0
SupportNotCutFromItsTarget =
    Told six_coasts attacked_from_target × (Bars six_coasts attacked_from_target (0 ∷ []) × Dislodges six_coasts attacked_from_target (out_from 1 (army power_c 2) ∷ []))

abbrev pub attacked_from_elsewhere : List Report
attacked_from_elsewhere = fails (army power_a 0) (SupportMove 1 2) ∷ succeeds (army power_b 1) (goes 2) ∷ fails (army power_c 3) (goes 0) ∷ []

-- The same move from elsewhere cuts it.
abbrev pub SupportCutFromElsewhere : Type 0
SupportCutFromElsewhere =
    Told six_coasts attacked_from_elsewhere × (Bars six_coasts attacked_from_elsewhere (0 ∷ []) × Dislodges six_coasts attacked_from_elsewhere [])

abbrev pub cut_support : List Report
cut_support =
    fails (army power_a 0) (SupportMove 1 2) ∷ fails (army power_b 1) (goes 2) ∷ fails (army power_c 3) (goes 0) ∷ stays (army power_d 2) Hold ∷ []

-- Support that is cut counts nothing: the move that it was for doesn't dislodge whoever holds.
abbrev pub CutSupportCountsNothing : Type 0
CutSupportCountsNothing = Told six_coasts cut_support × (Bars six_coasts cut_support (0 ∷ 2 ∷ []) × Dislodges six_coasts cut_support [])

abbrev pub dislodged_support : List Report
dislodged_support =
    falls (army power_a 0) (SupportMove 1 2) ∷ succeeds (army power_b 1) (goes 2) ∷ succeeds (army power_c 2) (goes 0) ∷ succeeds (army power_c 3) (SupportMove 2 0) ∷ []

-- A move from the region that the support is aimed at ends it, if it dislodges the unit.
abbrev pub DislodgedUnitSupportsNobody : Type 0
DislodgedUnitSupportsNobody =
    Told six_coasts dislodged_support × (Bars six_coasts dislodged_support [] × Dislodges six_coasts dislodged_support (out_from 2 (army power_a 0) ∷ []))

abbrev pub own_move_in : List Report
own_move_in =
    succeeds (army power_a 0) (SupportMove 1 2) ∷ succeeds (army power_a 1) (goes 2) ∷ falls (army power_c 2) Hold ∷ fails (army power_a 3) (goes 0) ∷ []

-- A move of the supporting unit's own power doesn't cut.
abbrev pub OwnPowerCutsNothing : Type 0
OwnPowerCutsNothing = Told six_coasts own_move_in × (Bars six_coasts own_move_in (0 ∷ []) × Dislodges six_coasts own_move_in (out_from 1 (army power_c 2) ∷ []))

-- ---- support to hold
abbrev pub supported_hold : List Report
supported_hold =
    fails (army power_a 0) (goes 1) ∷ succeeds (army power_a 2) (SupportMove 0 1) ∷ stays (army power_b 1) Hold ∷ succeeds (army power_b 3) (SupportHold 1) ∷ []

-- Support to hold makes up for support of the attack.
abbrev pub SupportedHoldStands : Type 0
SupportedHoldStands = Told six_coasts supported_hold × (Bars six_coasts supported_hold (1 ∷ []) × Dislodges six_coasts supported_hold [])

abbrev pub supported_mover : List Report
supported_mover =
    succeeds (army power_a 0) (goes 1) ∷ succeeds (army power_a 2) (SupportMove 0 1) ∷ falls (army power_b 1) (goes 4) ∷ succeeds (army power_b 3) (SupportHold 1) ∷
    fails (army power_c 5) (goes 4) ∷ []

-- A unit that moves has no use of support to hold, even if its move comes to nothing.
abbrev pub MoverHasNoHoldSupport : Type 0
MoverHasNoHoldSupport =
    Told six_coasts supported_mover × (Bars six_coasts supported_mover (4 ∷ []) × Dislodges six_coasts supported_mover (out_from 0 (army power_b 1) ∷ []))

-- ---- orders as played
-- What can't be carried out is a hold: a move to a region that isn't joined, a support aimed at such a region, of a move from one's own region, or from a region to itself, a convoy by an army.
abbrev pub ImpossibleOrdersHold : Type 0
ImpossibleOrdersHold =
    reports six_coasts
    (record { unit = army power_a 0; order = goes 0 } ∷ record { unit = army power_a 1; order = SupportHold 1 } ∷ record { unit = army power_a 2; order = SupportMove 2 3 } ∷
    record { unit = army power_a 3; order = SupportMove 4 4 } ∷ record { unit = army power_a 4; order = Convoy 0 1 } ∷ record { unit = army power_a 5; order = SupportMove 6 0 } ∷ [])
    ≡ stays (army power_a 0) Hold ∷ stays (army power_a 1) Hold ∷ stays (army power_a 2) Hold ∷ stays (army power_a 3) Hold ∷ stays (army power_a 4) Hold ∷ stays (army power_a 5) Hold ∷ []

-- A support for a move that nobody makes is an order as played, and succeeds unless it is cut.
abbrev pub idle_support : List Report
idle_support = succeeds (army power_a 0) (SupportMove 3 2) ∷ succeeds (army power_a 1) (SupportHold 4) ∷ []

abbrev pub IdleSupportSucceeds : Type 0
IdleSupportSucceeds = Told six_coasts idle_support

-- One text of its own power for its region is a unit's order. With none or two, even the same twice, it holds; so it does by a text for a build; what another power wrote doesn't count.
abbrev pub OneTextCounts : Type 0
OneTextCounts =
    ordered (army power_a 0 ∷ army power_a 1 ∷ army power_a 2 ∷ army power_a 3 ∷ [])
    (orders power_a 0 (goes 5) ∷ orders power_a 1 (goes 5) ∷ orders power_a 1 (goes 5) ∷ orders power_b 2 (goes 5) ∷ orders power_b 0 Hold ∷ writes power_a 3 (Build true) ∷ [])
    ≡ record { unit = army power_a 0; order = goes 5 } ∷ record { unit = army power_a 1; order = Hold } ∷ record { unit = army power_a 2; order = Hold } ∷
    record { unit = army power_a 3; order = Hold } ∷ []
