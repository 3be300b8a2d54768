-- A support counts at most one. Assumes nothing.
use Rattle.std.proofs.Common.{◌≤◌, arith}
use Rattle.values.specs.declared.tri.Tri.{Tri}
use Rattle.values.specs.declared.tri.Tri.TheVariants.{No, Open, Yes}
use Rattle.values.specs.Span.{counted}

pub counted_small : (t : Tri) → ((counted t).least ≤ (counted t).greatest) × ((counted t).greatest ≤ 1)
counted_small No = (omega arith, omega arith)
counted_small Open = (omega arith, omega arith)
counted_small Yes = (omega arith, omega arith)
