-- Which supports a closure counts. Assumes nothing.
use Rattle.std.specs.Prelude.{◌≡◌, ℕ, Bool, true}
use Rattle.assignment.specs.declared.resolution.Resolution.{Resolution}
use Rattle.assignment.specs.Places.{aimed_at}

-- what may be returned is what the test says, and the test lets through only what is aimed at r
pub record Counts (returned : Resolution → Bool → Type 0) (r : ℕ) (test : Resolution → Bool) : Type 0 where
  pub says : (x : Resolution) (b : Bool) → returned x b → b ≡ test x
  pub aimed : (x : Resolution) → test x ≡ true → aimed_at r x ≡ true
