-- A game. Assumes nothing.
use Rattle.std.specs.Prelude.{ℕ, Bool, true, false, List, Option}
use Rattle.board.specs.declared.unit.Unit.{Unit}
use Rattle.game.specs.declared.phase.Phase.{Phase}
use Rattle.game.specs.declared.phase.Phase.TheVariants.{SpringMoves, SpringRetreats, AutumnMoves, AutumnRetreats, Winter}
use Rattle.game.specs.declared.phase.Dislodged.{Dislodged}

-- owners: for each region its owner, or nobody; barred: regions closed to retreats, ascending
pub record Game : Type 0 where
  pub phase : Phase
  pub units : List Unit
  pub dislodged : List Dislodged
  pub barred : List ℕ
  pub owners : List (Option ℕ)

abbrev pub is_moves : Phase → Bool
is_moves SpringMoves = true
is_moves SpringRetreats = false
is_moves AutumnMoves = true
is_moves AutumnRetreats = false
is_moves Winter = false

abbrev pub is_retreats : Phase → Bool
is_retreats SpringMoves = false
is_retreats SpringRetreats = true
is_retreats AutumnMoves = false
is_retreats AutumnRetreats = true
is_retreats Winter = false

abbrev pub next : Phase → Phase
next SpringMoves = SpringRetreats
next SpringRetreats = AutumnMoves
next AutumnMoves = AutumnRetreats
next AutumnRetreats = Winter
next Winter = SpringMoves
