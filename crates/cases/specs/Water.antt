-- Worked cases over water: convoys, the paradox rule, attacks over water. Assumes nothing.
use Rattle.std.specs.Prelude.{◌≡◌, true, List, [], ◌∷◌, ◌++◌}
use Rattle.board.specs.declared.order.Order.TheVariants.{Hold, SupportHold, SupportMove, Convoy}
use Rattle.board.specs.Board.{Board, good_board}
use Rattle.deciding.specs.declared.report.Report.{Report}
use Rattle.cases.specs.Position.{
  coast,
  sea,
  edge,
  power_a,
  power_b,
  power_c,
  army,
  fleet,
  goes,
  crosses,
  succeeds,
  fails,
  stays,
  falls,
  circles,
  is_stranded,
  Told,
  Bars,
  Dislodges,
  out_from,
  out_over_water,
}

-- coasts 0, 1, 3, 4 round a sea 2; coasts 5, 6 at a sea 7
abbrev pub two_seas : Board
two_seas =
    record {
      regions = coast ∷ coast ∷ sea ∷ coast ∷ coast ∷ coast ∷ coast ∷ sea ∷ [];
      march = [];
      sail = edge 0 2 ∷ edge 1 2 ∷ edge 3 2 ∷ edge 4 2 ∷ edge 5 7 ∷ edge 6 7 ∷ [];
    }

abbrev pub TwoSeasGood : Type 0
TwoSeasGood = good_board two_seas ≡ true

-- ---- paradoxes
abbrev pub crossing : List Report
crossing =
    is_stranded (army power_a 0) (crosses 1) ∷ falls (fleet power_a 2) (Convoy 0 1) ∷ succeeds (fleet power_b 1) (SupportMove 4 2) ∷ succeeds (fleet power_b 4) (goes 2) ∷ []

-- An army would cut the support of an attack on the fleet that carries it: a paradox. The army is stranded and cuts nothing, and the fleet is dislodged. The region that it made for isn't barred.
abbrev pub ParadoxStrandsArmy : Type 0
ParadoxStrandsArmy = Told two_seas crossing × (Bars two_seas crossing [] × Dislodges two_seas crossing (out_from 4 (fleet power_a 2) ∷ []))

abbrev pub unopposed_crossing : List Report
unopposed_crossing =
    fails (army power_a 0) (crosses 1) ∷ stays (fleet power_a 2) (Convoy 0 1) ∷ stays (fleet power_b 1) Hold ∷ fails (fleet power_b 4) (goes 2) ∷ []

-- Where the fleet in the army's way only holds, nothing contradicts: the carrier stays, and the army comes to nothing against an equal. Both regions are barred.
abbrev pub NoParadoxWithoutSupport : Type 0
NoParadoxWithoutSupport = Told two_seas unopposed_crossing × (Bars two_seas unopposed_crossing (1 ∷ 2 ∷ []) × Dislodges two_seas unopposed_crossing [])

abbrev pub crossing_and_another : List Report
crossing_and_another = crossing ++ (succeeds (army power_c 5) (crosses 6) ∷ stays (fleet power_c 7) (Convoy 5 6) ∷ [])

-- A crossing elsewhere whose path isn't open keeps it.
abbrev pub ParadoxStrandsOnlyOpenPaths : Type 0
ParadoxStrandsOnlyOpenPaths =
    Told two_seas crossing_and_another × (Bars two_seas crossing_and_another [] × Dislodges two_seas crossing_and_another (out_from 4 (fleet power_a 2) ∷ []))

abbrev pub saving_cut : List Report
saving_cut =
    is_stranded (army power_a 0) (crosses 1) ∷ stays (fleet power_a 2) (Convoy 0 1) ∷ succeeds (fleet power_b 1) (SupportHold 2) ∷ fails (fleet power_c 3) (goes 2) ∷
    succeeds (fleet power_c 4) (SupportMove 3 2) ∷ []

-- An army would cut the support that saves the fleet that carries it. It is stranded, the support succeeds, and the attack on the carrier comes to nothing.
abbrev pub ParadoxOfSavedCarrier : Type 0
ParadoxOfSavedCarrier = Told two_seas saving_cut × (Bars two_seas saving_cut (2 ∷ []) × Dislodges two_seas saving_cut [])

-- ---- convoys that are broken, that are no chain, that are one
abbrev pub broken_convoy : List Report
broken_convoy =
    fails (army power_a 0) (crosses 1) ∷ falls (fleet power_a 2) (Convoy 0 1) ∷ succeeds (fleet power_c 3) (goes 2) ∷ succeeds (fleet power_c 4) (SupportMove 3 2) ∷ []

-- An army whose carrier is dislodged comes to nothing without a paradox, and bars nothing.
abbrev pub BrokenConvoyBarsNothing : Type 0
BrokenConvoyBarsNothing = Told two_seas broken_convoy × (Bars two_seas broken_convoy [] × Dislodges two_seas broken_convoy (out_from 3 (fleet power_a 2) ∷ []))

-- coasts 0, 1, 2 in a row, for armies; sea 3 at 0 and 1, sea 4 at 2, and the seas joined; 0 and 1 are joined for fleets too
abbrev pub strait : Board
strait =
    record {
      regions = coast ∷ coast ∷ coast ∷ sea ∷ sea ∷ [];
      march = edge 0 1 ∷ edge 1 2 ∷ [];
      sail = edge 0 3 ∷ edge 1 3 ∷ edge 2 4 ∷ edge 3 4 ∷ edge 0 1 ∷ [];
    }

abbrev pub StraitGood : Type 0
StraitGood = good_board strait ≡ true

abbrev pub fleetless : List Report
fleetless = fails (army power_a 0) (crosses 1) ∷ stays (fleet power_b 3) (Convoy 0 2) ∷ []

-- A path over water needs a fleet that carries just this army, even between coasts that are joined for fleets.
abbrev pub PathNeedsFleet : Type 0
PathNeedsFleet = Told strait fleetless × Bars strait fleetless []

abbrev pub chain_of_two : List Report
chain_of_two = stays (fleet power_b 4) (Convoy 0 2) ∷ stays (fleet power_a 3) (Convoy 0 2) ∷ succeeds (army power_a 0) (crosses 2) ∷ []

-- Two fleets make a chain, in whatever order they stand, and of whatever power they are.
abbrev pub ChainOfFleets : Type 0
ChainOfFleets = Told strait chain_of_two × Bars strait chain_of_two []

abbrev pub swap : List Report
swap = circles (army power_a 0) (crosses 1) ∷ circles (army power_b 1) (goes 0) ∷ stays (fleet power_a 3) (Convoy 0 1) ∷ []

-- Two armies change places if one of them goes over water: a circular movement of two.
abbrev pub SwapOverWater : Type 0
SwapOverWater = Told strait swap × (Bars strait swap [] × Dislodges strait swap [])

abbrev pub landing : List Report
landing = succeeds (army power_a 0) (crosses 1) ∷ falls (army power_b 1) Hold ∷ succeeds (army power_a 2) (SupportMove 0 1) ∷ stays (fleet power_a 3) (Convoy 0 1) ∷ []

-- Who is dislodged over water keeps no region of the attack.
abbrev pub AttackOverWaterHasNoRegion : Type 0
AttackOverWaterHasNoRegion = Told strait landing × (Bars strait landing [] × Dislodges strait landing (out_over_water (army power_b 1) ∷ []))
