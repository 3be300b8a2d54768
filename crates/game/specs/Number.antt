-- The number of a phase, from 0 for the first of the year. Assumes nothing.
use Rattle.std.specs.Prelude.{◌≡◌, ℕ, ◌≤◌, Result, MatchResult}
use Rattle.game.specs.declared.phase.Phase.{Phase}
use Rattle.game.specs.declared.phase.Phase.TheVariants.{SpringMoves, SpringRetreats, AutumnMoves, AutumnRetreats, Winter}
use Rattle.game.specs.declared.phase.NoPhase.{NoPhase}

abbrev pub phase_number : Phase → ℕ
phase_number SpringMoves = 0
phase_number SpringRetreats = 1
phase_number AutumnMoves = 2
phase_number AutumnRetreats = 3
phase_number Winter = 4

-- the phase of this number, or an error where it is no phase's
abbrev pub Numbered : ℕ → Result Phase NoPhase → Type 0
Numbered n r = MatchResult r (λ phase. phase_number phase ≡ n) (λ e. 5 ≤ n)
