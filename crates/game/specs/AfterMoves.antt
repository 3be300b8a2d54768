-- The game after a phase of moves. Assumes nothing.
use Rattle.std.specs.Prelude.{ℕ, Bool, cond, not, ◌&&◌, List, length, Some, None, Option}
use Rattle.values.specs.Fold.{gather, any, pick, those}
use Rattle.values.specs.Tri.{is_yes, is_no}
use Rattle.board.specs.Board.{Board}
use Rattle.board.specs.Order.{goes_to, is_move, is_convoyed, aim}
use Rattle.board.specs.declared.unit.Unit.{Unit}
use Rattle.assignment.specs.declared.resolution.Resolution.{Resolution}
use Rattle.assignment.specs.Assignment.{dislodged}
use Rattle.paths.specs.Paths.{path}
use Rattle.game.specs.declared.phase.Dislodged.{Dislodged}
use Rattle.game.specs.Game.{Game, next}

-- a move into r that succeeded
abbrev pub came : ℕ → Resolution → Bool
came r x = goes_to r x.order && is_yes x.value

-- whose move succeeded stands where it went
abbrev pub moved_unit : Resolution → Unit
moved_unit x = cond (is_move x.order && is_yes x.value) (record { power = x.unit.power; region = aim x.order; fleet = x.unit.fleet }) x.unit

abbrev pub is_dislodged : List Resolution → Resolution → Bool
is_dislodged xs x = is_yes (dislodged x xs)

abbrev pub standing : List Resolution → List Unit
standing xs = pick (λ x. not (is_dislodged xs x)) moved_unit xs

-- the region that the attack on r came from, unless it came over water
abbrev pub origin_of : Resolution → Option ℕ
origin_of x = cond (is_convoyed x.order) None (Some x.unit.region)

abbrev pub attacked_from : ℕ → List Resolution → Option ℕ
attacked_from r xs = gather (came r) (λ x rest. origin_of x) None xs

abbrev pub displaced : List Resolution → List Dislodged
displaced xs = pick (is_dislodged xs) (λ x. record { unit = x.unit; from = attacked_from x.unit.region xs }) xs

-- a move to r that has a path and came to nothing
abbrev pub bounced : Board → List Resolution → ℕ → Resolution → Bool
bounced m xs r x = goes_to r x.order && (is_no x.value && is_yes (path m x xs))

-- each region to which some move with a path came to nothing
abbrev pub contested : Board → List Resolution → List ℕ
contested m xs = those (length m.regions) (λ r. any (bounced m xs r) xs)

abbrev pub after_moves : Board → Game → List Resolution → Game
after_moves m g xs = record { phase = next g.phase; units = standing xs; dislodged = displaced xs; barred = contested m xs; owners = g.owners }
