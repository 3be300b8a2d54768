-- What rounds leave open: the paradox rule and circular movement; the outcome, and what is told of it. Assumes nothing.
use Rattle.std.specs.Prelude.{Bool, false, cond, ◌&&◌, ◌||◌, List, map}
use Rattle.values.specs.Fold.{any}
use Rattle.values.specs.declared.tri.Tri.TheVariants.{Open, Yes}
use Rattle.values.specs.Tri.{is_yes, is_open}
use Rattle.board.specs.Board.{Board}
use Rattle.board.specs.declared.order.Order.{Order}
use Rattle.board.specs.declared.unit.Unit.{Unit}
use Rattle.board.specs.Order.{is_move, is_support}
use Rattle.board.specs.Legal.{as_played}
use Rattle.assignment.specs.declared.resolution.Resolution.{Resolution}
use Rattle.assignment.specs.Assignment.{dislodged}
use Rattle.paths.specs.Paths.{path}
use Rattle.deciding.specs.declared.report.Report.{Report}
use Rattle.deciding.specs.Rounds.{decided}

-- a move whose path is open
abbrev pub adrift : Board → List Resolution → Resolution → Bool
adrift m xs x = is_move x.order && is_open (path m x xs)

-- a support or a path that stays open
abbrev pub unsettled : Board → List Resolution → Resolution → Bool
unsettled m xs x = (is_support x.order && is_open x.value) || adrift m xs x

-- a paradox: the orders contradict each other (the club: a contradiction)
abbrev pub paradox : Board → List Resolution → Bool
paradox m xs = any (unsettled m xs) xs

-- then every move whose path is open loses it, and everything is open again
abbrev pub strand_one : Board → List Resolution → Resolution → Resolution
strand_one m xs x = record { unit = x.unit; order = x.order; value = Open; stranded = x.stranded || adrift m xs x }

abbrev pub strand : Board → List Resolution → List Resolution
strand m xs = map (strand_one m xs) xs

-- rounds, and after a paradox rounds once more; that there is never a second paradox is a theorem
abbrev pub settle : Board → List Resolution → List Resolution
settle m xs = cond (paradox m (decided m xs)) (decided m (strand m (decided m xs))) (decided m xs)

-- a move that is open now goes round in a circular movement (the club: a ring)
abbrev pub in_ring : Resolution → Bool
in_ring x = is_move x.order && is_open x.value

abbrev pub close_one : Resolution → Resolution
close_one x = record { unit = x.unit; order = x.order; value = cond (in_ring x) Yes x.value; stranded = x.stranded }

abbrev pub close : List Resolution → List Resolution
close xs = map close_one xs

-- a unit and the order written for it
pub record Ordered : Type 0 where
  pub unit : Unit
  pub order : Order

-- each order as played, nothing decided
abbrev pub fresh_one : Board → Ordered → Resolution
fresh_one m o = record { unit = o.unit; order = as_played m o.unit o.order; value = Open; stranded = false }

abbrev pub fresh : Board → List Ordered → List Resolution
fresh m os = map (fresh_one m) os

-- before circular movements are closed, and after
abbrev pub settled : Board → List Ordered → List Resolution
settled m os = settle m (fresh m os)

abbrev pub outcome : Board → List Ordered → List Resolution
outcome m os = close (settled m os)

-- what is told of x, as it was settled; ys is the outcome
abbrev pub report_one : List Resolution → Resolution → Report
report_one ys x =
    record { unit = x.unit; order = x.order; success = is_yes (close_one x).value; dislodged = is_yes (dislodged (close_one x) ys); ring = in_ring x; stranded = x.stranded }

abbrev pub reports : Board → List Ordered → List Report
reports m os = map (report_one (outcome m os)) (settled m os)
