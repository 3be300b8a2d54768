-- A game as it is printed: phase, units, those dislodged, barred regions, owners, each in the order of regions. Assumes nothing.
use Rattle.std.specs.Prelude.{ℕ, ◌+◌, Bool, cond, List, [], ◌∷◌, ◌++◌, Some, None, codes, Option, nat_eq, slice_index_or}
use Rattle.values.specs.Fold.{each, find, is_in, count_up}
use Rattle.board.specs.declared.unit.Unit.{Unit}
use Rattle.game.specs.declared.phase.Phase.{Phase}
use Rattle.game.specs.declared.phase.Dislodged.{Dislodged}
use Rattle.game.specs.Game.{Game}
use Rattle.game.specs.Number.{phase_number}
use Rattle.show.specs.Words.{Names, name, letter, arm, then, end}

-- 0 for the first phase of a year, up to 4
abbrev pub digit : Phase → List ℕ
digit phase = (48 + phase_number phase) ∷ []

abbrev pub phase_line : Phase → List ℕ
phase_line phase = then (codes "phase") (end (digit phase))

abbrev pub unit_line : Names → Option Unit → List ℕ
unit_line names None = []
unit_line names (Some u) = then (codes "unit") (then (letter u.power) (then (arm u.fleet) (end (name names u.region))))

-- where the attack came from, unless it came over water
abbrev pub from_words : Names → List ℕ → Option ℕ → List ℕ
from_words names word None = word
from_words names word (Some r) = then word (then (codes "from") (name names r))

abbrev pub out_line : Names → Option Dislodged → List ℕ
out_line names None = []
out_line names (Some d) = then (codes "out") (then (letter d.unit.power) (then (arm d.unit.fleet) (end (from_words names (name names d.unit.region) d.from))))

abbrev pub barred_line : Names → ℕ → Bool → List ℕ
barred_line names r barred = cond barred (then (codes "barred") (end (name names r))) []

abbrev pub owner_line : Names → ℕ → Option ℕ → List ℕ
owner_line names r None = []
owner_line names r (Some p) = then (codes "owner") (then (letter p) (end (name names r)))

-- who stands in r, and who was dislodged there
abbrev pub unit_at : List Unit → ℕ → Option Unit
unit_at us r = find (λ u. nat_eq r u.region) us

abbrev pub dislodged_at : List Dislodged → ℕ → Option Dislodged
dislodged_at ds r = find (λ d. nat_eq r d.unit.region) ds

-- what each of n regions gives, in their order
abbrev pub by_region : ℕ → (ℕ → List ℕ) → List ℕ
by_region n give = each give (count_up 0 n)

abbrev pub unit_lines : Names → ℕ → List Unit → List ℕ
unit_lines names n us = by_region n (λ r. unit_line names (unit_at us r))

abbrev pub out_lines : Names → ℕ → List Dislodged → List ℕ
out_lines names n ds = by_region n (λ r. out_line names (dislodged_at ds r))

abbrev pub barred_lines : Names → ℕ → List ℕ → List ℕ
barred_lines names n barred = by_region n (λ r. barred_line names r (is_in r barred))

abbrev pub owner_lines : Names → ℕ → List (Option ℕ) → List ℕ
owner_lines names n owners = by_region n (λ r. owner_line names r (slice_index_or owners r None))

-- n is the count of regions
abbrev pub game_bytes : Names → ℕ → Game → List ℕ
game_bytes names n g =
    phase_line g.phase ++
    (unit_lines names n g.units ++
    (out_lines names n g.dislodged ++
    (barred_lines names n g.barred ++
    owner_lines names n g.owners)))
