-- Games alike print the same bytes, and so does a phase of them: each line asks only who is in a region, which no order of lists changes.
use Rattle.std.proofs.Common.{◌≡◌, ℕ, true, cond, not, ◌&&◌, ◌||◌, eqb, List, [], ◌++◌, map, length, Some, None, Option, sym, refl, ap, ◌∙◌}
use Rattle.values.specs.Fold.{number, distinct}
use Rattle.values.specs.Shuffle.{Shuffled, twice}
use Rattle.values.proofs.Shuffled.{shuffle_eq, any_shuffle, number_shuffle, find_shuffle, map_keys}
use Rattle.board.specs.Board.{Board, good_board, powers}
use Rattle.board.specs.declared.order.Order.{Order}
use Rattle.board.specs.declared.order.Order.TheVariants.{Hold, Move, SupportHold, SupportMove, Convoy}
use Rattle.board.specs.declared.unit.Unit.{Unit}
use Rattle.deciding.specs.declared.report.Report.{Report}
use Rattle.deciding.specs.Outcome.{reports}
use Rattle.game.specs.declared.phase.Phase.{Phase}
use Rattle.game.specs.declared.phase.Phase.TheVariants.{SpringMoves, SpringRetreats, AutumnMoves, AutumnRetreats, Winter}
use Rattle.game.specs.declared.phase.Dislodged.{Dislodged}
use Rattle.game.specs.declared.text.Written.{Written}
use Rattle.game.specs.Game.{Game}
use Rattle.game.specs.Texts.{addressed, text_for, order_in, ordered}
use Rattle.game.specs.Retreats.{is_just, may_retreat, retreat_by, retreat_of, retreats_to}
use Rattle.game.specs.Winter.{winters, units_after_winter}
use Rattle.game.specs.Lawful.{Lawful, places, units_in}
use Rattle.game.specs.Turn.{turn_in, turn}
use Rattle.year_laws.proofs.Kept.{lawful_kept}
use Rattle.order_laws.specs.Edges.{SameBoard}
use Rattle.order_laws.specs.Deciding.{SameReports}
use Rattle.order_laws.specs.Turns.{AlikeGames}
use Rattle.order_laws.proofs.Deciding.{steps_same}
use Rattle.order_laws.proofs.AfterMoves.{text_same}
use Rattle.order_laws.proofs.Winter.{winters_same}
use Rattle.order_laws.proofs.Turns.{any_order}
use Rattle.show.specs.Words.{Names}
use Rattle.show.specs.Game.{by_region, phase_line, unit_line, out_line, barred_line, unit_at, dislodged_at, unit_lines, out_lines, barred_lines, owner_lines, game_bytes}
use Rattle.show.specs.Reports.{report_line, move_line, report_at, move_lines, alone, goal_line, retreat_line, retreat_lines, went_line, came_line, winter_lines, phase_lines, phase_bytes}
use Rattle.show.proofs.Lines.{same_lines}
use Rattle.show_laws.specs.AnyOrder.{PrintAnyOrder}

-- units apart as units dislodged
outs_apart : (ds : List Dislodged) → distinct (places (units_in ds)) ≡ true → distinct (map (λ d. d.unit.region) ds) ≡ true
outs_apart ds e = sym (ap distinct (map_keys (λ d. d.unit.region) (λ u. u.region) (λ d. d.unit) (λ d. refl) ds)) ∙ e

-- ---- a game
module _ (names : Names) (k : ℕ) (g h : Game) (a : AlikeGames g h) (apart : distinct (places g.units) ≡ true) (out_apart : distinct (places (units_in g.dislodged)) ≡ true) where
  units_same : unit_lines names k g.units ≡ unit_lines names k h.units
  units_same = same_lines (λ r. unit_line names (unit_at g.units r)) (λ r. unit_line names (unit_at h.units r)) k (λ r l. ap (unit_line names) (find_shuffle (λ u. u.region) r a.units apart))

  outs_same : out_lines names k g.dislodged ≡ out_lines names k h.dislodged
  outs_same =
      same_lines (λ r. out_line names (dislodged_at g.dislodged r)) (λ r. out_line names (dislodged_at h.dislodged r)) k
      (λ r l. ap (out_line names) (find_shuffle (λ d. d.unit.region) r a.dislodged (outs_apart g.dislodged out_apart)))

  barred_same : barred_lines names k g.barred ≡ barred_lines names k h.barred
  barred_same = same_lines _ _ k (λ r l. ap (barred_line names r) (a.barred r))

  pub game_same : game_bytes names k g ≡ game_bytes names k h
  game_same = λ i. phase_line (a.phase i) ++ (units_same i ++ (outs_same i ++ (barred_same i ++ owner_lines names k (a.owners i))))

-- ---- moves
moves_same : (names : Names) (k : ℕ) {ws vs : List Written} (xs ys : List Report) → Shuffled Written ws vs → SameReports xs ys → move_lines names k ws xs ≡ move_lines names k vs ys
moves_same names k {ws} {vs} xs ys w told =
    same_lines (λ r. move_line names ws (report_at xs r)) (λ r. move_line names vs (report_at ys r)) k (λ r l. line (report_at xs r) ∙ ap (move_line names vs) (told.of_unit r))
  where
    line : (o : Option Report) → move_line names ws o ≡ move_line names vs o
    line None = refl
    line (Some x) = ap (λ b. cond (b || x.dislodged) (report_line names x) []) (any_shuffle (addressed x.unit.power x.unit.region) w)

-- ---- retreats
module _ (m n : Board) (b : SameBoard m n) (g h : Game) (a : AlikeGames g h) {ws vs : List Written} (w : Shuffled Written ws vs) where
  may_same : (d : Dislodged) (t : ℕ) → may_retreat m g d t ≡ may_retreat n h d t
  may_same d t = λ i. steps_same m n b d.unit t i && (not (any_shuffle (λ u. eqb t u.region) a.units i) && (not (a.barred t i) && not (is_just t d.from)))

  by_same : (d : Dislodged) (o : Order) → retreat_by m g d o ≡ retreat_by n h d o
  by_same d Hold = refl
  by_same d (Move to convoyed) = λ i. cond (not convoyed && may_same d to i) (Some to) None
  by_same d (SupportHold at) = refl
  by_same d (SupportMove from to) = refl
  by_same d (Convoy from to) = refl

  goal_same : (d : Dislodged) → retreat_of m g ws d ≡ retreat_of n h vs d
  goal_same d = by_same d (order_in (text_for d.unit.power d.unit.region ws)) ∙ ap (λ t. retreat_by n h d (order_in t)) (text_same d.unit.power d.unit.region w)

  count_same : (t : ℕ) → retreats_to m g ws t ≡ retreats_to n h vs t
  count_same t = (λ i. number (λ d. is_just t (goal_same d i)) g.dislodged) ∙ number_shuffle (λ d. is_just t (retreat_of n h vs d)) a.dislodged

  alone_same : (o : Option ℕ) → alone (retreats_to m g ws) o ≡ alone (retreats_to n h vs) o
  alone_same None = refl
  alone_same (Some t) = ap (λ k. eqb k 1) (count_same t)

  retreat_same : (names : Names) (o : Option Dislodged) → retreat_line names (retreats_to m g ws) (retreat_of m g ws) o ≡ retreat_line names (retreats_to n h vs) (retreat_of n h vs) o
  retreat_same names None = refl
  retreat_same names (Some d) =
      ap (λ o. goal_line names (alone (retreats_to m g ws) o) d.unit o) (goal_same d) ∙ ap (λ t. goal_line names t d.unit (retreat_of n h vs d)) (alone_same (retreat_of n h vs d))

  retreats_same : (names : Names) → distinct (places (units_in g.dislodged)) ≡ true → retreat_lines names m g ws ≡ retreat_lines names n h vs
  retreats_same names apart =
      same_lines (λ r. retreat_line names (retreats_to m g ws) (retreat_of m g ws) (dislodged_at g.dislodged r)) (λ r. retreat_line names (retreats_to n h vs) (retreat_of n h vs) (dislodged_at h.dislodged r)) (length m.regions)
      (λ r l. retreat_same names (dislodged_at g.dislodged r) ∙ ap (retreat_line names (retreats_to n h vs) (retreat_of n h vs)) (find_shuffle (λ d. d.unit.region) r a.dislodged (outs_apart g.dislodged apart))) ∙
      ap (λ qs. by_region (length qs) (λ r. retreat_line names (retreats_to n h vs) (retreat_of n h vs) (dislodged_at h.dislodged r))) b.regions

-- ---- winter
winter_same : (names : Names) (k : ℕ) {us qs xs ys : List Unit} → Shuffled Unit us qs → distinct (places us) ≡ true → Shuffled Unit xs ys → distinct (places xs) ≡ true → winter_lines names k us xs ≡ winter_lines names k qs ys
winter_same names k {us} {qs} {xs} {ys} before before-apart after after-apart =
    same_lines (λ r. went_line names (unit_at us r) (unit_at xs r) ++ came_line names (unit_at us r) (unit_at xs r)) (λ r. went_line names (unit_at qs r) (unit_at ys r) ++ came_line names (unit_at qs r) (unit_at ys r)) k
    (λ r l. λ i. went_line names (find_shuffle (λ u. u.region) r before before-apart i) (find_shuffle (λ u. u.region) r after after-apart i) ++ came_line names (find_shuffle (λ u. u.region) r before before-apart i) (find_shuffle (λ u. u.region) r after after-apart i))

-- ---- any phase
module _ (names : Names) (m n : Board) (g h : Game) (ws vs : List Written) (b : SameBoard m n) (good : good_board m ≡ true) (l : Lawful m g) (a : AlikeGames g h) (w : Shuffled Written ws vs) where
  next-lawful : Lawful m (turn m g ws)
  next-lawful = lawful_kept m g ws good l

  moves-told : move_lines names (length m.regions) ws (reports m (ordered g.units ws)) ≡ move_lines names (length n.regions) vs (reports n (ordered h.units vs))
  moves-told =
      moves_same names (length m.regions) (reports m (ordered g.units ws)) (reports n (ordered h.units vs)) w (any_order m n g h ws vs b l a w).told ∙
      ap (λ qs. move_lines names (length qs) vs (reports n (ordered h.units vs))) b.regions

  lines_same : (p : Phase) → g.phase ≡ p → phase_lines p names m g ws ≡ phase_lines p names n h vs
  lines_same SpringMoves e = moves-told
  lines_same SpringRetreats e = retreats_same m n b g h a w names l.out_apart
  lines_same AutumnMoves e = moves-told
  lines_same AutumnRetreats e = retreats_same m n b g h a w names l.out_apart
  lines_same Winter e =
      winter_same names (length m.regions) a.units l.apart
      (twice (winters_same m n b g.owners w powers a.units) (shuffle_eq (ap (λ o. winters n o vs powers h.units) a.owners)))
      (sym (ap (λ p. distinct (places (turn_in p m g ws).units)) e) ∙ next-lawful.apart) ∙
      ap (λ qs. winter_lines names (length qs) h.units (units_after_winter n h.owners vs h.units)) b.regions

  bytes_same : phase_bytes names m g ws ≡ phase_bytes names n h vs
  bytes_same =
      ap (λ x. x ++ game_bytes names (length m.regions) (turn m g ws)) (lines_same g.phase refl ∙ ap (λ p. phase_lines p names n h vs) a.phase) ∙
      ap (λ x. phase_lines h.phase names n h vs ++ x)
      (game_same names (length m.regions) (turn m g ws) (turn n h vs) (any_order m n g h ws vs b l a w).alike next-lawful.apart next-lawful.out_apart ∙ ap (λ qs. game_bytes names (length qs) (turn n h vs)) b.regions)

pub print_any_order : PrintAnyOrder
print_any_order names m n g h ws vs b good l a w = bytes_same names m n g h ws vs b good l a w
