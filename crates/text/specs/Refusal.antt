-- Why a file is refused, and what a reader that may want memory answers. Assumes nothing.
use Rattle.std.specs.Prelude.{◌≡◌, ℕ, Bool, true, false, Some, None, Ok, Err, Option, Result}
use Rattle.text.specs.declared.refusal.Reason.{Reason}
use Rattle.text.specs.declared.refusal.Reason.TheVariants.{Misfit, BadText, Unlawful, Unreadable}
use Rattle.text.specs.declared.refusal.Refusal.{Refusal}
use Rattle.text.specs.declared.refusal.Fault.{Fault}
use Rattle.text.specs.declared.refusal.Fault.TheVariants.{At, NoMemory}

-- the number that is printed of a reason
abbrev pub number : Reason → ℕ
number Misfit = 1
number BadText = 2
number Unlawful = 3
number Unreadable = 4

-- the line is of no known form
abbrev pub unreadable : ℕ → Refusal
unreadable line = record { reason = Unreadable; line = line }

-- the file is too long, or its words don't fit their counts
abbrev pub misfit : Refusal
misfit = record { reason = Misfit; line = 0 }

-- a reader of one line gives just what its form says, or refuses the line
abbrev pub Reads : {T V : Type 0} → (T → V) → Option V → ℕ → Result T Refusal → Type 0
Reads value o line (Ok x) = o ≡ Some (value x)
Reads value o line (Err e) = (o ≡ None) × (e ≡ unreadable line)

-- a reader of nothing passes where the test does, or refuses the line
abbrev pub Passes : Bool → ℕ → Result (Unit {0}) Refusal → Type 0
Passes test line (Ok x) = test ≡ true
Passes test line (Err e) = (test ≡ false) × (e ≡ unreadable line)

-- one line more: what is known after it, or the line is refused
abbrev pub Steps : {S : Type 0} → Option S → ℕ → S → Result (Unit {0}) Refusal → Type 0
Steps o line after (Ok x) = o ≡ Some after
Steps o line after (Err e) = (o ≡ None) × (e ≡ unreadable line)

-- the same, but for want of memory
abbrev pub Advances : {S : Type 0} → Option S → ℕ → S → Result (Unit {0}) Fault → Type 0
Advances o line after (Ok x) = o ≡ Some after
Advances o line after (Err (At e)) = (o ≡ None) × (e ≡ unreadable line)
Advances o line after (Err NoMemory) = Unit {0}

-- a reader of a file gives just what the definition says, but for want of memory
abbrev pub Answers : {T V : Type 0} → (T → V) → Result V Refusal → Result T Fault → Type 0
Answers value r (Ok x) = r ≡ Ok (value x)
Answers value r (Err (At e)) = r ≡ Err e
Answers value r (Err NoMemory) = Unit {0}
