-- Every worked case is shown by computing both sides.
use Rattle.std.proofs.Common.{refl}
use Rattle.values.specs.Fold.{gather, any, all, each, only, distinct, count_up}
use Rattle.paths.specs.Paths.{flood}
use Rattle.strength.specs.Strength.{attack, prevent}
use Rattle.deciding.specs.Rounds.{rounds}
use Rattle.game.specs.Lawful.{good_owners}
use Rattle.game.specs.Owners.{owners_from}
use Rattle.game.specs.Winter.{winters}
use Rattle.game.specs.Turn.{play}
use Rattle.cases.specs.Fitting.{answers}
use Rattle.cases.proofs.worked_cases_stand.Goals as goal

pub returns : goal.returns
unfolding gather any all each only distinct count_up flood attack prevent rounds good_owners owners_from winters play answers
returns c =
    record {
      six_coasts_good = refl;
      bounce_bars = (refl, (refl, refl));
      support_wins = (refl, (refl, refl));
      head_to_head_loser_dislodged = (refl, (refl, refl));
      equals_do_not_pass = (refl, (refl, refl));
      head_to_head_loser_prevents_nobody = (refl, (refl, refl));
      ring_closes = (refl, (refl, refl));
      ring_blocked = (refl, (refl, refl));
      own_power_support_does_not_dislodge = (refl, (refl, refl));
      third_power_support_dislodges = (refl, (refl, refl));
      own_unit_stays = (refl, (refl, refl));
      support_not_cut_from_its_target = (refl, (refl, refl));
      support_cut_from_elsewhere = (refl, (refl, refl));
      cut_support_counts_nothing = (refl, (refl, refl));
      dislodged_unit_supports_nobody = (refl, (refl, refl));
      own_power_cuts_nothing = (refl, (refl, refl));
      supported_hold_stands = (refl, (refl, refl));
      mover_has_no_hold_support = (refl, (refl, refl));
      impossible_orders_hold = refl;
      idle_support_succeeds = refl;
      one_text_counts = refl;
      two_seas_good = refl;
      paradox_strands_army = (refl, (refl, refl));
      no_paradox_without_support = (refl, (refl, refl));
      paradox_strands_only_open_paths = (refl, (refl, refl));
      paradox_of_saved_carrier = (refl, (refl, refl));
      broken_convoy_bars_nothing = (refl, (refl, refl));
      strait_good = refl;
      path_needs_fleet = (refl, refl);
      chain_of_fleets = (refl, refl);
      swap_over_water = (refl, (refl, refl));
      attack_over_water_has_no_region = (refl, (refl, refl));
      bounce_fits_one_way = refl;
      ring_fits_two_ways = refl;
      crossing_fits_two_ways = refl;
      saved_carrier_fits_no_way = refl;
      head_to_head_played = refl;
      retreat_to_empty_region_only = (refl, (refl, refl));
      no_retreat_to_attackers_region = (refl, (refl, (refl, refl)));
      retreat_succeeds = refl;
      without_retreat_gone = (refl, (refl, (refl, (refl, (refl, refl)))));
      open_region_of_attack_closed = (refl, refl);
      retreats_collide = refl;
      forbidden_retreat_stops_nobody = refl;
      retreat_into_left_region = refl;
      retreat_games_lawful = refl;
      nine_coasts_good = refl;
      lowest_disband_first = refl;
      struck_disband_first = refl;
      just_too_many_disband = (refl, refl);
      homeland_good = refl;
      owners_after_autumn = refl;
      owners_kept_in_spring = refl;
      builds_in_homes = refl;
      builds_no_more_than_lacking = refl;
      builds_nowhere_else = (refl, refl);
      loss_frees_home = (refl, refl);
      phases_follow = (refl, (refl, (refl, (refl, (refl, refl)))));
      winter_games_lawful = (refl, refl);
    }
