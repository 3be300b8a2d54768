-- What rounds decide is forced. Assumes nothing.
use Rattle.std.specs.Prelude.{◌≡◌, List, map}
use Rattle.board.specs.Board.{Board}
use Rattle.assignment.specs.declared.resolution.Resolution.{Resolution}
use Rattle.deciding.specs.Rounds.{decided}
use Rattle.deciding.specs.Outcome.{Ordered, fresh, strand}
use Rattle.deciding_laws.specs.Assignments.{reopened, Consistent, Agrees}

-- what is decided before any army is stranded or any ring closed is so in every consistent assignment in which no army is stranded
abbrev pub Forced : Type 0
Forced = (m : Board) (os : List Ordered) (ys : List Resolution) → map reopened ys ≡ fresh m os → Consistent m ys → Agrees (decided m (fresh m os)) ys

-- and what is decided after the paradox rule is so in every consistent assignment with the same armies stranded
abbrev pub ForcedAfterParadox : Type 0
ForcedAfterParadox =
    (m : Board) (os : List Ordered) (ys : List Resolution) → map reopened ys ≡ strand m (decided m (fresh m os)) → Consistent m ys → Agrees (decided m (strand m (decided m (fresh m os)))) ys
