-- Rounds: all orders decided anew, each from what the last round said. Assumes nothing.
use Rattle.std.specs.Prelude.{ℕ, zero, suc, ◌+◌, List, map, length}
use Rattle.board.specs.Board.{Board}
use Rattle.assignment.specs.declared.resolution.Resolution.{Resolution}
use Rattle.strength.specs.Decide.{decides}

-- x as the others decide it
abbrev pub again : Board → List Resolution → Resolution → Resolution
again m xs x = record { unit = x.unit; order = x.order; value = decides m x xs x.order; stranded = x.stranded }

abbrev pub round : Board → List Resolution → List Resolution
round m xs = map (again m xs) xs

unfoldable pub rounds : ℕ → Board → List Resolution → List Resolution
rounds zero m xs = xs
rounds (suc n) m xs = rounds n m (round m xs)

-- as many rounds as units and one more
abbrev pub decided : Board → List Resolution → List Resolution
decided m xs = rounds (length xs + 1) m xs
