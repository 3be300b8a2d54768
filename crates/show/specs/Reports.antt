-- What is printed of a phase: a line for each unit that it tells of, in the order of regions. Assumes nothing.
use Rattle.std.specs.Prelude.{ℕ, Bool, false, cond, ◌||◌, List, [], ◌++◌, length, Some, None, codes, Option, ◌==◌, nat_eq}
use Rattle.values.specs.Fold.{any, find}
use Rattle.board.specs.Board.{Board}
use Rattle.board.specs.declared.order.Order.{Order}
use Rattle.board.specs.declared.order.Order.TheVariants.{Hold, Move, SupportHold, SupportMove, Convoy}
use Rattle.board.specs.declared.unit.Unit.{Unit}
use Rattle.deciding.specs.declared.report.Report.{Report}
use Rattle.deciding.specs.Outcome.{reports}
use Rattle.game.specs.declared.phase.Phase.{Phase}
use Rattle.game.specs.declared.phase.Phase.TheVariants.{SpringMoves, SpringRetreats, AutumnMoves, AutumnRetreats, Winter}
use Rattle.game.specs.declared.phase.Dislodged.{Dislodged}
use Rattle.game.specs.declared.text.Written.{Written}
use Rattle.game.specs.Game.{Game}
use Rattle.game.specs.Texts.{addressed, ordered}
use Rattle.game.specs.Retreats.{retreat_of, retreats_to}
use Rattle.game.specs.Winter.{units_after_winter}
use Rattle.game.specs.Turn.{turn}
use Rattle.show.specs.Words.{Names, name, letter, arm, then, end, order_words}
use Rattle.show.specs.Game.{by_region, unit_at, dislodged_at, game_bytes}

-- ---- moves: a line for each unit with a text of its power, or dislodged
abbrev pub told : List Written → Report → Bool
told ws x = any (addressed x.unit.power x.unit.region) ws || x.dislodged

abbrev pub yes_no : Bool → List ℕ
yes_no success = cond success (codes " yes") (codes " no")

-- nothing for a hold or a convoy
abbrev pub answer_to : Order → Bool → List ℕ
answer_to Hold success = []
answer_to (Move to convoyed) success = yes_no success
answer_to (SupportHold at) success = yes_no success
answer_to (SupportMove from to) success = yes_no success
answer_to (Convoy from to) success = []

abbrev pub answer : Report → List ℕ
answer x = cond x.dislodged (codes " thrown out") (answer_to x.order x.success)

abbrev pub marks : Report → List ℕ
marks x = cond x.ring (codes " ring") [] ++ cond x.stranded (codes " kept") []

-- the order as played, what became of it, and the marks
abbrev pub report_line : Names → Report → List ℕ
report_line names x = then (letter x.unit.power) (then (name names x.unit.region) (end (order_words names x.order ++ (answer x ++ marks x))))

abbrev pub move_line : Names → List Written → Option Report → List ℕ
move_line names ws None = []
move_line names ws (Some x) = cond (told ws x) (report_line names x) []

abbrev pub report_at : List Report → ℕ → Option Report
report_at xs r = find (λ x. nat_eq r x.unit.region) xs

abbrev pub move_lines : Names → ℕ → List Written → List Report → List ℕ
move_lines names n ws xs = by_region n (λ r. move_line names ws (report_at xs r))

-- ---- retreats: a line for each unit that was dislodged
-- count says how many retreat to a region: whether nobody else goes there
abbrev pub alone : (ℕ → ℕ) → Option ℕ → Bool
alone count None = false
alone count (Some t) = count t == 1

abbrev pub retreat_words : Names → Bool → Option ℕ → List ℕ
retreat_words names arrives None = codes "hold gone"
retreat_words names arrives (Some t) = then (codes "move") (then (name names t) (cond arrives (codes "yes") (codes "gone")))

abbrev pub goal_line : Names → Bool → Unit → Option ℕ → List ℕ
goal_line names arrives u goal = then (letter u.power) (then (name names u.region) (end (retreat_words names arrives goal)))

abbrev pub retreat_line : Names → (ℕ → ℕ) → (Dislodged → Option ℕ) → Option Dislodged → List ℕ
retreat_line names count goal None = []
retreat_line names count goal (Some d) = goal_line names (alone count (goal d)) d.unit (goal d)

abbrev pub retreat_lines : Names → Board → Game → List Written → List ℕ
retreat_lines names m g ws = by_region (length m.regions) (λ r. retreat_line names (retreats_to m g ws) (retreat_of m g ws) (dislodged_at g.dislodged r))

-- ---- winter: a line for each unit that went, and for each that came
abbrev pub of_same_power : ℕ → Option Unit → Bool
of_same_power p None = false
of_same_power p (Some u) = p == u.power

abbrev pub went_line : Names → Option Unit → Option Unit → List ℕ
went_line names None after = []
went_line names (Some u) after = cond (of_same_power u.power after) [] (then (letter u.power) (then (name names u.region) (end (codes "gone"))))

abbrev pub came_line : Names → Option Unit → Option Unit → List ℕ
came_line names before None = []
came_line names before (Some u) = cond (of_same_power u.power before) [] (then (letter u.power) (then (name names u.region) (end (arm u.fleet))))

abbrev pub winter_lines : Names → ℕ → List Unit → List Unit → List ℕ
winter_lines names n before after = by_region n (λ r. went_line names (unit_at before r) (unit_at after r) ++ came_line names (unit_at before r) (unit_at after r))

-- ---- any phase
abbrev pub phase_lines : Phase → Names → Board → Game → List Written → List ℕ
phase_lines SpringMoves names m g ws = move_lines names (length m.regions) ws (reports m (ordered g.units ws))
phase_lines SpringRetreats names m g ws = retreat_lines names m g ws
phase_lines AutumnMoves names m g ws = move_lines names (length m.regions) ws (reports m (ordered g.units ws))
phase_lines AutumnRetreats names m g ws = retreat_lines names m g ws
phase_lines Winter names m g ws = winter_lines names (length m.regions) g.units (units_after_winter m g.owners ws g.units)

-- what one phase prints: its lines, then the next game
abbrev pub phase_bytes : Names → Board → Game → List Written → List ℕ
phase_bytes names m g ws = phase_lines g.phase names m g ws ++ game_bytes names (length m.regions) (turn m g ws)
