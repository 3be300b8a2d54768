-- Short words for a position, and what is asked of it. Assumes nothing.
use Rattle.std.specs.Prelude.{◌≡◌, ℕ, Bool, true, false, List, map, Some, None}
use Rattle.geography.specs.declared.links.Edge.{Edge}
use Rattle.board.specs.declared.order.Order.{Order}
use Rattle.board.specs.declared.order.Order.TheVariants.{Move}
use Rattle.board.specs.declared.region.Kind.{Kind}
use Rattle.board.specs.declared.region.Kind.TheVariants.{Coast, Sea}
use Rattle.board.specs.declared.region.Region.{Region}
use Rattle.board.specs.declared.unit.Unit.{Unit}
use Rattle.board.specs.Board.{Board}
use Rattle.deciding.specs.declared.report.Report.{Report}
use Rattle.deciding.specs.Outcome.{Ordered, outcome, reports}
use Rattle.game.specs.declared.phase.Dislodged.{Dislodged}
use Rattle.game.specs.declared.text.Text.{Text}
use Rattle.game.specs.declared.text.Text.TheVariants.{Command}
use Rattle.game.specs.declared.text.Written.{Written}
use Rattle.game.specs.AfterMoves.{displaced, contested}

-- ---- boards
-- neither a centre nor a home
abbrev pub plain : Kind → Region
plain k = record { kind = k; centre = false; home = None }

abbrev pub coast : Region
coast = plain Coast

abbrev pub sea : Region
sea = plain Sea

-- a centre that is nobody's home, and one that is a home of p
abbrev pub centre : Kind → Region
centre k = record { kind = k; centre = true; home = None }

abbrev pub home_of : ℕ → Kind → Region
home_of p k = record { kind = k; centre = true; home = Some p }

abbrev pub edge : ℕ → ℕ → Edge
edge r s = record { one = r; two = s }

-- ---- units, orders and texts; the powers by the letters that players use
abbrev pub power_a : ℕ
power_a = 0

abbrev pub power_b : ℕ
power_b = 1

abbrev pub power_c : ℕ
power_c = 2

abbrev pub power_d : ℕ
power_d = 3

abbrev pub army : ℕ → ℕ → Unit
army p r = record { power = p; region = r; fleet = false }

abbrev pub fleet : ℕ → ℕ → Unit
fleet p r = record { power = p; region = r; fleet = true }

abbrev pub goes : ℕ → Order
goes t = Move t false

abbrev pub crosses : ℕ → Order
crosses t = Move t true

abbrev pub writes : ℕ → ℕ → Text → Written
writes p r t = record { power = p; region = r; text = t }

abbrev pub orders : ℕ → ℕ → Order → Written
orders p r o = writes p r (Command o)

-- ---- what is told of a unit and its order
abbrev pub told : Bool → Bool → Bool → Bool → Unit → Order → Report
told success dislodged ring stranded u o = record { unit = u; order = o; success = success; dislodged = dislodged; ring = ring; stranded = stranded }

-- the move or support succeeds
abbrev pub succeeds : Unit → Order → Report
succeeds u o = told true false false false u o

-- the move or support comes to nothing; the unit stays
abbrev pub fails : Unit → Order → Report
fails u o = told false false false false u o

-- a hold or a convoy, of which nothing is decided; the unit stays
abbrev pub stays : Unit → Order → Report
stays u o = told false false false false u o

-- the unit is dislodged, whatever its order
abbrev pub falls : Unit → Order → Report
falls u o = told false true false false u o

-- the move succeeds by closing a circular movement
abbrev pub circles : Unit → Order → Report
circles u o = told true false true false u o

-- the paradox rule takes the army's path
abbrev pub is_stranded : Unit → Order → Report
is_stranded u o = told false false false true u o

-- ---- what is asked of a position; it is written down once, with what is to be told of each unit
-- the units and orders alone
abbrev pub given : List Report → List Ordered
given rs = map (λ r. record { unit = r.unit; order = r.order }) rs

-- just this is told of these orders
abbrev pub Told : Board → List Report → Type 0
Told m rs = reports m (given rs) ≡ rs

-- just these regions are barred afterwards
abbrev pub Bars : Board → List Report → List ℕ → Type 0
Bars m rs qs = contested m (outcome m (given rs)) ≡ qs

-- just these units are dislodged, each with the region of the attack
abbrev pub Dislodges : Board → List Report → List Dislodged → Type 0
Dislodges m rs ds = displaced (outcome m (given rs)) ≡ ds

abbrev pub out_from : ℕ → Unit → Dislodged
out_from r u = record { unit = u; from = Some r }

abbrev pub out_over_water : Unit → Dislodged
out_over_water u = record { unit = u; from = None }
