-- Worked cases of owners and of winter: centres taken, units that go, units that come. Assumes nothing.
use Rattle.std.specs.Prelude.{◌≡◌, ℕ, Bool, true, false, List, [], ◌∷◌, Some, None, Option}
use Rattle.values.specs.Fold.{all}
use Rattle.board.specs.declared.region.Kind.TheVariants.{Land, Coast}
use Rattle.board.specs.declared.unit.Unit.{Unit}
use Rattle.board.specs.Board.{Board, good_board}
use Rattle.game.specs.declared.phase.Phase.{Phase}
use Rattle.game.specs.declared.phase.Phase.TheVariants.{SpringMoves, SpringRetreats, AutumnMoves, AutumnRetreats, Winter}
use Rattle.game.specs.declared.phase.Dislodged.{Dislodged}
use Rattle.game.specs.declared.text.Text.TheVariants.{Build, Disband}
use Rattle.game.specs.declared.text.Written.{Written}
use Rattle.game.specs.Game.{Game}
use Rattle.game.specs.Lawful.{lawful}
use Rattle.game.specs.Turn.{turn, play}
use Rattle.cases.specs.Position.{coast, centre, home_of, edge, power_a, power_b, army, fleet, goes, writes, orders, out_from}

-- ---- too many units
-- nine coasts, all of them centres
abbrev pub nine_coasts : Board
nine_coasts =
    record {
      regions = centre Coast ∷ centre Coast ∷ centre Coast ∷ centre Coast ∷ centre Coast ∷ centre Coast ∷ centre Coast ∷ centre Coast ∷ centre Coast ∷ [];
      march = [];
      sail = [];
    }

-- power a owns two of them
abbrev pub on_nine_coasts : Phase → List Unit → Game
on_nine_coasts p us =
    record {
      phase = p;
      units = us;
      dislodged = [];
      barred = [];
      owners = Some power_a ∷ None ∷ Some power_a ∷ None ∷ None ∷ None ∷ None ∷ None ∷ None ∷ [];
    }

abbrev pub two_too_many : Game
two_too_many = on_nine_coasts Winter (army power_a 0 ∷ army power_a 2 ∷ army power_a 5 ∷ army power_a 8 ∷ [])

abbrev pub NineCoastsGood : Type 0
NineCoastsGood = good_board nine_coasts ≡ true

abbrev pub strikes : ℕ → ℕ → Written
strikes p r = writes p r Disband

-- With no text those in the lower regions go.
abbrev pub LowestDisbandFirst : Type 0
LowestDisbandFirst = turn nine_coasts two_too_many [] ≡ on_nine_coasts SpringMoves (army power_a 5 ∷ army power_a 8 ∷ [])

-- Those struck by a text go first; a text for a region without a unit strikes nobody.
abbrev pub StruckDisbandFirst : Type 0
StruckDisbandFirst =
    turn nine_coasts two_too_many (strikes power_a 5 ∷ strikes power_a 8 ∷ strikes power_a 3 ∷ []) ≡ on_nine_coasts SpringMoves (army power_a 0 ∷ army power_a 2 ∷ [])

-- One struck is one that goes, and the lowest of the others with it; three struck are the two lowest of these.
abbrev pub JustTooManyDisband : Type 0
JustTooManyDisband =
    (turn nine_coasts two_too_many (strikes power_a 8 ∷ []) ≡ on_nine_coasts SpringMoves (army power_a 2 ∷ army power_a 5 ∷ [])) ×
    (turn nine_coasts two_too_many (strikes power_a 8 ∷ strikes power_a 5 ∷ strikes power_a 2 ∷ []) ≡ on_nine_coasts SpringMoves (army power_a 0 ∷ army power_a 8 ∷ []))

-- ---- owners and builds
-- homes of power a: a coast 0 and a land 1; of power b: a coast 2; a centre 3, and a coast 4 that is no centre
abbrev pub homeland : Board
homeland =
    record {
      regions = home_of power_a Coast ∷ home_of power_a Land ∷ home_of power_b Coast ∷ centre Coast ∷ coast ∷ [];
      march = edge 0 1 ∷ edge 1 2 ∷ edge 2 3 ∷ edge 3 4 ∷ [];
      sail = [];
    }

abbrev pub HomelandGood : Type 0
HomelandGood = good_board homeland ≡ true

abbrev pub in_homeland : Phase → List Unit → List Dislodged → List (Option ℕ) → Game
in_homeland p us ds os = record { phase = p; units = us; dislodged = ds; barred = []; owners = os }

abbrev pub owners_before : List (Option ℕ)
owners_before = Some power_a ∷ None ∷ Some power_b ∷ None ∷ None ∷ []

-- a's army stands in b's home and one on the coast that is no centre; b's army, dislodged there, retreats to the centre
abbrev pub before_retreat : Phase → Game
before_retreat p = in_homeland p (army power_a 2 ∷ army power_a 4 ∷ []) (out_from 1 (army power_b 2) ∷ []) owners_before

abbrev pub units_after : List Unit
units_after = army power_a 2 ∷ army power_a 4 ∷ army power_b 3 ∷ []

-- After the autumn's retreats a centre belongs to whoever's unit stands on it, else to whom it belonged; other regions belong to nobody.
abbrev pub OwnersAfterAutumn : Type 0
OwnersAfterAutumn =
    turn homeland (before_retreat AutumnRetreats) (orders power_b 2 (goes 3) ∷ []) ≡ in_homeland Winter units_after [] (Some power_a ∷ None ∷ Some power_a ∷ Some power_b ∷ None ∷ [])

-- After the spring's they stay as they were.
abbrev pub OwnersKeptInSpring : Type 0
OwnersKeptInSpring = turn homeland (before_retreat SpringRetreats) (orders power_b 2 (goes 3) ∷ []) ≡ in_homeland AutumnMoves units_after [] owners_before

-- power a owns 0, 1 and 3, power b owns 2
abbrev pub owners_in_winter : List (Option ℕ)
owners_in_winter = Some power_a ∷ Some power_a ∷ Some power_b ∷ Some power_a ∷ None ∷ []

abbrev pub winter_with : List Unit → Game
winter_with us = in_homeland Winter us [] owners_in_winter

abbrev pub spring_with : List Unit → Game
spring_with us = in_homeland SpringMoves us [] owners_in_winter

abbrev pub builds : ℕ → ℕ → Bool → Written
builds p r f = writes p r (Build f)

-- A power with fewer units than centres builds in its homes, the lower regions first, whatever the order of the texts.
abbrev pub BuildsInHomes : Type 0
BuildsInHomes =
    turn homeland (winter_with (army power_a 4 ∷ army power_b 2 ∷ [])) (builds power_a 1 false ∷ builds power_a 0 true ∷ []) ≡
    spring_with (army power_a 4 ∷ army power_b 2 ∷ fleet power_a 0 ∷ army power_a 1 ∷ [])

-- It builds no more than it lacks.
abbrev pub BuildsNoMoreThanLacking : Type 0
BuildsNoMoreThanLacking =
    turn homeland (winter_with (army power_a 4 ∷ army power_a 3 ∷ army power_b 2 ∷ [])) (builds power_a 1 false ∷ builds power_a 0 true ∷ []) ≡
    spring_with (army power_a 4 ∷ army power_a 3 ∷ army power_b 2 ∷ fleet power_a 0 ∷ [])

-- Nothing is built where a unit stands, on a centre that is no home, in another power's home, by a fleet on land, or by two texts.
abbrev pub BuildsNowhereElse : Type 0
BuildsNowhereElse =
    (turn homeland (winter_with (army power_a 0 ∷ army power_b 2 ∷ [])) (builds power_a 0 false ∷ builds power_a 3 false ∷ builds power_a 2 false ∷ builds power_a 1 true ∷ []) ≡
    spring_with (army power_a 0 ∷ army power_b 2 ∷ [])) ×
    (turn homeland (winter_with (army power_a 4 ∷ army power_b 2 ∷ [])) (builds power_a 0 false ∷ builds power_a 0 false ∷ []) ≡ spring_with (army power_a 4 ∷ army power_b 2 ∷ []))

-- power a owns nothing, power b its home
abbrev pub b_alone : Phase → List Unit → Game
b_alone p us = in_homeland p us [] (None ∷ None ∷ Some power_b ∷ None ∷ None ∷ [])

-- power b owns nothing, power a one home
abbrev pub a_alone : Phase → List Unit → Game
a_alone p us = in_homeland p us [] (Some power_a ∷ None ∷ None ∷ None ∷ None ∷ [])

-- The powers follow one another: what a lower power loses frees a home for a higher one, and not the other way round.
abbrev pub LossFreesHome : Type 0
LossFreesHome =
    (turn homeland (b_alone Winter (army power_a 2 ∷ [])) (builds power_b 2 true ∷ []) ≡ b_alone SpringMoves (fleet power_b 2 ∷ [])) ×
    (turn homeland (a_alone Winter (army power_b 0 ∷ [])) (builds power_a 0 true ∷ []) ≡ a_alone SpringMoves [])

-- ---- the year
abbrev pub a_year : Phase → Game
a_year p = on_nine_coasts p (army power_a 0 ∷ army power_a 2 ∷ [])

-- The five phases follow one another, and none is left out.
abbrev pub PhasesFollow : Type 0
PhasesFollow =
    (turn nine_coasts (a_year SpringMoves) [] ≡ a_year SpringRetreats) × ((turn nine_coasts (a_year SpringRetreats) [] ≡ a_year AutumnMoves) ×
    ((turn nine_coasts (a_year AutumnMoves) [] ≡ a_year AutumnRetreats) × ((turn nine_coasts (a_year AutumnRetreats) [] ≡ a_year Winter) ×
    ((turn nine_coasts (a_year Winter) [] ≡ a_year SpringMoves) × (play nine_coasts ([] ∷ [] ∷ [] ∷ [] ∷ [] ∷ []) (a_year SpringMoves) ≡ a_year SpringMoves)))))

-- All these games are lawful.
abbrev pub WinterGamesLawful : Type 0
WinterGamesLawful =
    (all (lawful nine_coasts) (two_too_many ∷ a_year SpringMoves ∷ a_year Winter ∷ []) ≡ true) ×
    (all (lawful homeland)
    (before_retreat SpringRetreats ∷ before_retreat AutumnRetreats ∷ winter_with (army power_a 4 ∷ army power_b 2 ∷ []) ∷ winter_with (army power_a 4 ∷ army power_a 3 ∷ army power_b 2 ∷ []) ∷
    winter_with (army power_a 0 ∷ army power_b 2 ∷ []) ∷ b_alone Winter (army power_a 2 ∷ []) ∷ a_alone Winter (army power_b 0 ∷ []) ∷ []) ≡ true)
