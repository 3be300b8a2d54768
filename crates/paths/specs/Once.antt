-- That units stand inside the board is a fact with one proof, as a struct keeps it. Assumes nothing.
use Rattle.std.specs.Prelude.{List}
use Rattle.std.specs.Coded.{le_prop}
use Rattle.assignment.specs.declared.resolution.Resolution.{Resolution}
use Rattle.assignment.specs.Places.{Inside}

pub Inside-prop : (xs : List Resolution) → IsProp (Inside xs)
unfolding Inside
Inside-prop xs a b i = λ k. le_prop (a k) (b k) i
