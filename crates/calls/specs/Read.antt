-- What a reader of words answers. Assumes nothing.
use Rattle.std.specs.Prelude.{◌≡◌, Bool, true, false, cond, Some, None, Ok, Err, Option, Result}
use Rattle.calls.specs.declared.verdict.Verdict.{Verdict}
use Rattle.calls.specs.declared.verdict.Verdict.TheVariants.{Accepted}
use Rattle.calls.specs.declared.verdict.Refusal.{Refusal}
use Rattle.calls.specs.Verdict.{is_accepted, verdict_of}
use Rattle.calls.specs.declared.fault.Fault.{Fault}
use Rattle.calls.specs.declared.fault.Fault.TheVariants.{Refused, NoMemory}

-- what was meant, where the words are good
abbrev pub read_if : {A : Type 0} → Bool → A → Option A
read_if good x = cond good (Some x) None

-- a refusal of words that aren't good, or want of memory
abbrev pub RefusedUnless : Bool → Refusal → Fault → Type 0
RefusedUnless good refusal (Refused u) = (good ≡ false) × (u ≡ refusal)
RefusedUnless good refusal NoMemory = Unit {0}

-- what was read where the words are good, else a refusal
abbrev pub ReadOr : {A : Type 0} → Bool → (A → Type 0) → Refusal → Result A Fault → Type 0
ReadOr good is refusal (Ok x) = (good ≡ true) × is x
ReadOr good is refusal (Err e) = RefusedUnless good refusal e

-- a verdict that is no acceptance, or want of memory
abbrev pub RefusedBy : Verdict → Fault → Type 0
RefusedBy verdict (Refused u) = (verdict_of u ≡ verdict) × (is_accepted verdict ≡ false)
RefusedBy verdict NoMemory = Unit {0}

-- the verdict, and with acceptance what was read
abbrev pub Answered : {A : Type 0} → Verdict → (A → Type 0) → Result A Fault → Type 0
Answered verdict is (Ok x) = (verdict ≡ Accepted) × is x
Answered verdict is (Err e) = RefusedBy verdict e
