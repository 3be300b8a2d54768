-- The phase of a number is the one that its word means. Assumes nothing.
use Rattle.std.proofs.Common.{◌≡◌, ℕ, true, ltb, refl, subst}
use Rattle.game.specs.declared.phase.Phase.{Phase}
use Rattle.game.specs.declared.phase.Phase.TheVariants.{SpringMoves, SpringRetreats, AutumnMoves, AutumnRetreats, Winter}
use Rattle.game.specs.Number.{phase_number}
use Rattle.calls.specs.Begin.{phase_in}

of_number : (phase : Phase) → phase_in (phase_number phase) ≡ phase
of_number SpringMoves = refl
of_number SpringRetreats = refl
of_number AutumnMoves = refl
of_number AutumnRetreats = refl
of_number Winter = refl

number_below : (phase : Phase) → ltb (phase_number phase) 5 ≡ true
number_below SpringMoves = refl
number_below SpringRetreats = refl
number_below AutumnMoves = refl
number_below AutumnRetreats = refl
number_below Winter = refl

pub phase_is : (n : ℕ) (phase : Phase) → phase_number phase ≡ n → phase_in n ≡ phase
phase_is n phase e = subst (λ k. phase_in k ≡ phase) e (of_number phase)

pub phase_below : (n : ℕ) (phase : Phase) → phase_number phase ≡ n → ltb n 5 ≡ true
phase_below n phase e = subst (λ k. ltb k 5 ≡ true) e (number_below phase)
