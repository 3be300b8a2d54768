-- Boards: regions, edges, where a unit can be, and which boards are good. Assumes nothing.
use Rattle.std.specs.Prelude.{ℕ, Bool, true, false, cond, not, ◌&&◌, List, [], length, Some, None, Option, ◌==◌, nat_le, nat_lt, slice_index_or}
use Rattle.values.specs.Fold.{all}
use Rattle.geography.specs.declared.links.Edge.{Edge}
use Rattle.board.specs.declared.region.Kind.{Kind}
use Rattle.board.specs.declared.region.Kind.TheVariants.{Land, Coast, Sea}
use Rattle.board.specs.declared.region.Region.{Region}
use Rattle.board.specs.declared.unit.Unit.{Unit}

-- regions are counted from 0; march: edges for armies, sail: edges for fleets
pub record Board : Type 0 where
  pub regions : List Region
  pub march : List Edge
  pub sail : List Edge

-- regions, before edges join them
abbrev pub land : List Region → Board
land rs = record { regions = rs; march = []; sail = [] }

-- powers are 0 to 6
abbrev pub powers : ℕ
powers = 7

-- an army can be on land or coast, a fleet on coast or sea
abbrev pub marchable : Kind → Bool
marchable Land = true
marchable Coast = true
marchable Sea = false

abbrev pub sailable : Kind → Bool
sailable Land = false
sailable Coast = true
sailable Sea = true

abbrev pub is_coast : Kind → Bool
is_coast Land = false
is_coast Coast = true
is_coast Sea = false

abbrev pub is_sea : Kind → Bool
is_sea Land = false
is_sea Coast = false
is_sea Sea = true

-- what a read past the end gives
abbrev pub nowhere : Region
nowhere = record { kind = Land; centre = false; home = None }

abbrev pub on_board : Board → ℕ → Bool
on_board m r = nat_lt r (length m.regions)

abbrev pub region_at : Board → ℕ → Region
region_at m r = slice_index_or m.regions r nowhere

abbrev pub coastal : Board → ℕ → Bool
coastal m r = on_board m r && is_coast (region_at m r).kind

abbrev pub at_sea : Board → ℕ → Bool
at_sea m r = on_board m r && is_sea (region_at m r).kind

-- whether a fleet, or else an army, can be in a region
abbrev pub can_stand : Board → Bool → ℕ → Bool
can_stand m fleet r = on_board m r && cond fleet (sailable (region_at m r).kind) (marchable (region_at m r).kind)

-- a unit where its kind can be, of a power that there is
abbrev pub stands : Board → Unit → Bool
stands m u = can_stand m u.fleet u.region && nat_lt u.power powers

-- nobody, or a power that there is
abbrev pub is_power : Option ℕ → Bool
is_power None = true
is_power (Some p) = nat_lt p powers

-- an edge joins two different regions where such a unit can be
abbrev pub good_edge : Board → Bool → Edge → Bool
good_edge m fleet e = can_stand m fleet e.one && (can_stand m fleet e.two && not (e.one == e.two))

abbrev pub good_board : Board → Bool
good_board m =
    nat_le (length m.regions) 128 && (all (λ r. is_power r.home) m.regions && (all (good_edge m false) m.march && all (good_edge m true) m.sail))
