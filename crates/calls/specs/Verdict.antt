-- The number of a verdict: 0 for what is accepted. Assumes nothing.
use Rattle.std.specs.Prelude.{ℕ, Bool, true, false}
use Rattle.calls.specs.declared.verdict.Verdict.{Verdict}
use Rattle.calls.specs.declared.verdict.Verdict.TheVariants.{Accepted, Misfit, BadText, Unlawful}
use Rattle.calls.specs.declared.verdict.Refusal.{Refusal}
use Rattle.calls.specs.declared.verdict.Refusal.TheVariants as refusal

abbrev pub number : Verdict → ℕ
number Accepted = 0
number Misfit = 1
number BadText = 2
number Unlawful = 3

abbrev pub is_accepted : Verdict → Bool
is_accepted Accepted = true
is_accepted Misfit = false
is_accepted BadText = false
is_accepted Unlawful = false

abbrev pub verdict_of : Refusal → Verdict
verdict_of refusal.Misfit = Misfit
verdict_of refusal.BadText = BadText
verdict_of refusal.Unlawful = Unlawful
