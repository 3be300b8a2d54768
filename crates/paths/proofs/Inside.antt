-- A unit of a list whose units stand inside the board. Assumes nothing.
use Rattle.std.proofs.Common.{◌≡◌, ℕ, ◌<◌, List, length, get_or, sym, subst}
use Rattle.std.proofs.lemmas.List.{get_or_read}
use Rattle.assignment.specs.declared.resolution.Resolution.{Resolution}
use Rattle.assignment.specs.Assignment.{nobody}
use Rattle.assignment.specs.Places.{Inside}
use Rattle.assignment.proofs.Tabled.{inside_at}

pub inside_item : (xs : List Resolution) (i : ℕ) (x : Resolution) → Inside xs → i < length xs → x ≡ get_or xs i x → x.unit.region < 128
inside_item xs i x inside h here = subst (λ y. y.unit.region < 128) (sym (get_or_read xs i x h here nobody)) (inside_at xs i inside)
