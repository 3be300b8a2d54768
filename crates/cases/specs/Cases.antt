-- All worked cases. Assumes nothing.
use Rattle.cases.specs.Moves.{
  SixCoastsGood,
  BounceBars,
  SupportWins,
  HeadToHeadLoserDislodged,
  EqualsDoNotPass,
  HeadToHeadLoserPreventsNobody,
  RingCloses,
  RingBlocked,
  OwnPowerSupportDoesNotDislodge,
  ThirdPowerSupportDislodges,
  OwnUnitStays,
  SupportNotCutFromItsTarget,
  SupportCutFromElsewhere,
  CutSupportCountsNothing,
  DislodgedUnitSupportsNobody,
  OwnPowerCutsNothing,
  SupportedHoldStands,
  MoverHasNoHoldSupport,
  ImpossibleOrdersHold,
  IdleSupportSucceeds,
  OneTextCounts,
}
use Rattle.cases.specs.Water.{
  TwoSeasGood,
  ParadoxStrandsArmy,
  NoParadoxWithoutSupport,
  ParadoxStrandsOnlyOpenPaths,
  ParadoxOfSavedCarrier,
  BrokenConvoyBarsNothing,
  StraitGood,
  PathNeedsFleet,
  ChainOfFleets,
  SwapOverWater,
  AttackOverWaterHasNoRegion,
}
use Rattle.cases.specs.Fitting.{BounceFitsOneWay, RingFitsTwoWays, CrossingFitsTwoWays, SavedCarrierFitsNoWay}
use Rattle.cases.specs.Retreats.{
  HeadToHeadPlayed,
  RetreatToEmptyRegionOnly,
  NoRetreatToAttackersRegion,
  RetreatSucceeds,
  WithoutRetreatGone,
  OpenRegionOfAttackClosed,
  RetreatsCollide,
  ForbiddenRetreatStopsNobody,
  RetreatIntoLeftRegion,
  RetreatGamesLawful,
}
use Rattle.cases.specs.Winter.{
  NineCoastsGood,
  LowestDisbandFirst,
  StruckDisbandFirst,
  JustTooManyDisband,
  HomelandGood,
  OwnersAfterAutumn,
  OwnersKeptInSpring,
  BuildsInHomes,
  BuildsNoMoreThanLacking,
  BuildsNowhereElse,
  LossFreesHome,
  PhasesFollow,
  WinterGamesLawful,
}

pub record AllCases : Type 0 where
  -- on land
  pub six_coasts_good : SixCoastsGood
  pub bounce_bars : BounceBars
  pub support_wins : SupportWins
  pub head_to_head_loser_dislodged : HeadToHeadLoserDislodged
  pub equals_do_not_pass : EqualsDoNotPass
  pub head_to_head_loser_prevents_nobody : HeadToHeadLoserPreventsNobody
  pub ring_closes : RingCloses
  pub ring_blocked : RingBlocked
  pub own_power_support_does_not_dislodge : OwnPowerSupportDoesNotDislodge
  pub third_power_support_dislodges : ThirdPowerSupportDislodges
  pub own_unit_stays : OwnUnitStays
  pub support_not_cut_from_its_target : SupportNotCutFromItsTarget
  pub support_cut_from_elsewhere : SupportCutFromElsewhere
  pub cut_support_counts_nothing : CutSupportCountsNothing
  pub dislodged_unit_supports_nobody : DislodgedUnitSupportsNobody
  pub own_power_cuts_nothing : OwnPowerCutsNothing
  pub supported_hold_stands : SupportedHoldStands
  pub mover_has_no_hold_support : MoverHasNoHoldSupport
  pub impossible_orders_hold : ImpossibleOrdersHold
  pub idle_support_succeeds : IdleSupportSucceeds
  pub one_text_counts : OneTextCounts
  -- over water
  pub two_seas_good : TwoSeasGood
  pub paradox_strands_army : ParadoxStrandsArmy
  pub no_paradox_without_support : NoParadoxWithoutSupport
  pub paradox_strands_only_open_paths : ParadoxStrandsOnlyOpenPaths
  pub paradox_of_saved_carrier : ParadoxOfSavedCarrier
  pub broken_convoy_bars_nothing : BrokenConvoyBarsNothing
  pub strait_good : StraitGood
  pub path_needs_fleet : PathNeedsFleet
  pub chain_of_fleets : ChainOfFleets
  pub swap_over_water : SwapOverWater
  pub attack_over_water_has_no_region : AttackOverWaterHasNoRegion
  -- how many ways fit
  pub bounce_fits_one_way : BounceFitsOneWay
  pub ring_fits_two_ways : RingFitsTwoWays
  pub crossing_fits_two_ways : CrossingFitsTwoWays
  pub saved_carrier_fits_no_way : SavedCarrierFitsNoWay
  -- retreats
  pub head_to_head_played : HeadToHeadPlayed
  pub retreat_to_empty_region_only : RetreatToEmptyRegionOnly
  pub no_retreat_to_attackers_region : NoRetreatToAttackersRegion
  pub retreat_succeeds : RetreatSucceeds
  pub without_retreat_gone : WithoutRetreatGone
  pub open_region_of_attack_closed : OpenRegionOfAttackClosed
  pub retreats_collide : RetreatsCollide
  pub forbidden_retreat_stops_nobody : ForbiddenRetreatStopsNobody
  pub retreat_into_left_region : RetreatIntoLeftRegion
  pub retreat_games_lawful : RetreatGamesLawful
  -- owners, winter, the year
  pub nine_coasts_good : NineCoastsGood
  pub lowest_disband_first : LowestDisbandFirst
  pub struck_disband_first : StruckDisbandFirst
  pub just_too_many_disband : JustTooManyDisband
  pub homeland_good : HomelandGood
  pub owners_after_autumn : OwnersAfterAutumn
  pub owners_kept_in_spring : OwnersKeptInSpring
  pub builds_in_homes : BuildsInHomes
  pub builds_no_more_than_lacking : BuildsNoMoreThanLacking
  pub builds_nowhere_else : BuildsNowhereElse
  pub loss_frees_home : LossFreesHome
  pub phases_follow : PhasesFollow
  pub winter_games_lawful : WinterGamesLawful
