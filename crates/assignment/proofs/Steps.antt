-- One element on, and the end, of a loop over resolutions. Assumes nothing.
use Rattle.std.proofs.Common.{◌≡◌, ℕ, ◌+◌, ◌<◌, List, ◌∷◌, length, get_or, drop, append_assoc, append-nil}
use Rattle.std.proofs.lemmas.List.{drop_more, drop_all}
use Rattle.assignment.specs.declared.resolution.Resolution.{Resolution}
use Rattle.assignment.specs.Assignment.{nobody}

pub resolution_more : (xs : List Resolution) (i : ℕ) → i < length xs → drop i xs ≡ get_or xs i nobody ∷ drop (i + 1) xs
resolution_more xs i h = drop_more xs i nobody h

pub ruleset steps = (resolution_more, drop_all, append-nil, append_assoc)
