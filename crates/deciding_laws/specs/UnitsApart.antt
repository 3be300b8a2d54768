-- Where units stand after the moves. Assumes nothing.
use Rattle.std.specs.Prelude.{◌≡◌, ℕ, Bool, true, cond, not, ◌&&◌, List}
use mathlib.Core.List.{Memᴰ}
use Rattle.values.specs.Fold.{pick, distinct}
use Rattle.values.specs.Tri.{is_yes}
use Rattle.board.specs.Board.{Board}
use Rattle.board.specs.Order.{is_move, aim}
use Rattle.assignment.specs.declared.resolution.Resolution.{Resolution}
use Rattle.assignment.specs.Assignment.{dislodged}
use Rattle.deciding.specs.Outcome.{Ordered, outcome}
use Rattle.deciding_laws.specs.Assignments.{Apart}

-- whose move succeeded stands where it went, any other where it stood
abbrev pub new_region : Resolution → ℕ
new_region x = cond (is_move x.order && is_yes x.value) (aim x.order) x.unit.region

abbrev pub stays_on_board : List Resolution → Resolution → Bool
stays_on_board ys x = not (is_yes (dislodged x ys))

pub record OneToARegion (ys : List Resolution) : Type 0 where
  -- no two units that are not dislodged stand in one region
  pub regions : distinct (pick (stays_on_board ys) new_region ys) ≡ true
  -- the same unit by unit: two that end in one region began in one
  pub each : (x y : Resolution) → Memᴰ x ys → Memᴰ y ys → stays_on_board ys x ≡ true → stays_on_board ys y ≡ true → new_region x ≡ new_region y → x.unit.region ≡ y.unit.region

abbrev pub UnitsApart : Type 0
UnitsApart = (m : Board) (os : List Ordered) → Apart os → OneToARegion (outcome m os)
