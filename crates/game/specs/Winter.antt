-- Winter, power by power: disbands with more units than centres, builds with fewer. Assumes nothing.
use Rattle.std.specs.Prelude.{ℕ, zero, suc, ◌-◌, Bool, true, false, cond, not, ◌&&◌, List, [], ◌∷◌, ◌++◌, length, take, Some, None, Option, ◌==◌, nat_lt, slice_index_or}
use Rattle.values.specs.Fold.{any, each, number, select, those, is_in}
use Rattle.board.specs.Board.{Board, can_stand, region_at, powers}
use Rattle.board.specs.declared.unit.Unit.{Unit}
use Rattle.game.specs.declared.text.Text.{Text}
use Rattle.game.specs.declared.text.Text.TheVariants.{Command, Build, Disband}
use Rattle.game.specs.declared.text.Written.{Written}
use Rattle.game.specs.Texts.{text_for}
use Rattle.game.specs.Retreats.{occupied, is_just}

abbrev pub of_power : ℕ → Unit → Bool
of_power p u = p == u.power

abbrev pub units_of : ℕ → List Unit → ℕ
units_of p us = number (of_power p) us

abbrev pub centres_of : ℕ → List (Option ℕ) → ℕ
centres_of p owners = number (is_just p) owners

-- p has a unit in r
abbrev pub has_unit : ℕ → List Unit → ℕ → Bool
has_unit p us r = any (λ u. of_power p u && r == u.region) us

abbrev pub is_disband : Option Text → Bool
is_disband None = false
is_disband (Some (Command o)) = false
is_disband (Some (Build fleet)) = false
is_disband (Some Disband) = true

-- p's one text for r strikes what is there
abbrev pub struck : ℕ → List Written → ℕ → Bool
struck p ws r = is_disband (text_for p r ws)

-- p's units in the order in which they go: first those struck, then the others, the lower regions first
abbrev pub disband_order : Board → ℕ → List Written → List Unit → List ℕ
disband_order m p ws us =
    those (length m.regions) (λ r. has_unit p us r && struck p ws r) ++ those (length m.regions) (λ r. has_unit p us r && not (struck p ws r))

-- the first k of them go
abbrev pub disbanded : Board → ℕ → List Written → ℕ → List Unit → List Unit
disbanded m p ws k us = select (λ u. not (of_power p u && is_in u.region (take k (disband_order m p ws us)))) us

-- what p's one text for r asks to build: an army, a fleet or nothing
abbrev pub build_in : Option Text → Option Bool
build_in None = None
build_in (Some (Command o)) = None
build_in (Some (Build fleet)) = Some fleet
build_in (Some Disband) = None

-- in a home of p that p owns, that is empty and where such a unit can be
abbrev pub may_build : Board → ℕ → List (Option ℕ) → List Unit → ℕ → Option Bool → List Unit
may_build m p owners us r None = []
may_build m p owners us r (Some fleet) =
    cond (can_stand m fleet r && (is_just p (region_at m r).home && (is_just p (slice_index_or owners r None) && not (occupied r us)))) (record { power = p; region = r; fleet = fleet } ∷ []) []

-- all that p may build, the lower regions first
abbrev pub build_order : Board → ℕ → List (Option ℕ) → List Written → List Unit → List Unit
build_order m p owners ws us = each (λ r. may_build m p owners us r (build_in (text_for p r ws))) (those (length m.regions) (λ r. true))

-- the first k of them come
abbrev pub built : Board → ℕ → List (Option ℕ) → List Written → ℕ → List Unit → List Unit
built m p owners ws k us = us ++ take k (build_order m p owners ws us)

abbrev pub winter_of : Board → List (Option ℕ) → List Written → ℕ → List Unit → List Unit
winter_of m owners ws p us =
    cond (nat_lt (centres_of p owners) (units_of p us)) (disbanded m p ws (units_of p us - centres_of p owners) us) (built m p owners ws (centres_of p owners - units_of p us) us)

-- powers 0 to n - 1, one after the other
unfoldable pub winters : Board → List (Option ℕ) → List Written → ℕ → List Unit → List Unit
winters m owners ws zero us = us
winters m owners ws (suc p) us = winter_of m owners ws p (winters m owners ws p us)

abbrev pub units_after_winter : Board → List (Option ℕ) → List Written → List Unit → List Unit
units_after_winter m owners ws us = winters m owners ws powers us
