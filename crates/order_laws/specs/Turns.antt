-- Phases played in any order of units, texts, those dislodged, barred regions and edges. Assumes nothing.
use Rattle.std.specs.Prelude.{◌≡◌, ℕ, true, ◌↔◌, List, [], ◌∷◌, map}
use Rattle.values.specs.Fold.{is_in, those, distinct}
use Rattle.values.specs.Shuffle.{Shuffled}
use Rattle.board.specs.declared.unit.Unit.{Unit}
use Rattle.board.specs.Board.{Board, good_board}
use Rattle.deciding.specs.declared.report.Report.{Report}
use Rattle.deciding.specs.Outcome.{reports}
use Rattle.game.specs.declared.phase.Dislodged.{Dislodged}
use Rattle.game.specs.declared.text.Written.{Written}
use Rattle.game.specs.Game.{Game}
use Rattle.game.specs.Texts.{ordered}
use Rattle.game.specs.Turn.{turn, play}
use Rattle.game.specs.Lawful.{Lawful}
use Rattle.order_laws.specs.Edges.{SameBoard}
use Rattle.order_laws.specs.Deciding.{by_region, report_region, SameReports}

-- where a unit stands, and where one that is dislodged stood
abbrev pub unit_region : Unit → ℕ
unit_region u = u.region

abbrev pub dislodged_region : Dislodged → ℕ
dislodged_region d = d.unit.region

-- told in the order of regions, lists of units, of those dislodged and of reports in any order are equal
abbrev pub AnyOrderByRegion : Type 0
AnyOrderByRegion =
    (n : ℕ) →
    ((us vs : List Unit) → Shuffled Unit us vs → distinct (map unit_region us) ≡ true → by_region unit_region n us ≡ by_region unit_region n vs) ×
    ((ds es : List Dislodged) → Shuffled Dislodged ds es → distinct (map dislodged_region ds) ≡ true → by_region dislodged_region n ds ≡ by_region dislodged_region n es) ×
    ((xs ys : List Report) → Shuffled Report xs ys → distinct (map report_region xs) ≡ true → by_region report_region n xs ≡ by_region report_region n ys)

-- one game, its lists in another order
pub record AlikeGames (g h : Game) : Type 0 where
  pub phase : g.phase ≡ h.phase
  pub units : Shuffled Unit g.units h.units
  pub dislodged : Shuffled Dislodged g.dislodged h.dislodged
  pub barred : (r : ℕ) → is_in r g.barred ≡ is_in r h.barred
  pub owners : g.owners ≡ h.owners

-- told in the order of regions, the lists of such games are equal
pub record SameByRegion (g h : Game) : Type 0 where
  pub units : (n : ℕ) → by_region unit_region n g.units ≡ by_region unit_region n h.units
  pub dislodged : (n : ℕ) → by_region dislodged_region n g.dislodged ≡ by_region dislodged_region n h.dislodged
  pub barred : (n : ℕ) → those n (λ r. is_in r g.barred) ≡ those n (λ r. is_in r h.barred)

-- on boards drawn alike both boards are good or none is, and of games alike both are lawful or none is
pub record SameStanding (m n : Board) (g h : Game) : Type 0 where
  pub good : good_board m ≡ good_board n
  pub lawful : Lawful m g ↔ Lawful n h
  pub region_by_region : Lawful m g → SameByRegion g h

abbrev pub AlikeStand : Type 0
AlikeStand = (m n : Board) (g h : Game) → SameBoard m n → AlikeGames g h → SameStanding m n g h

-- after a phase: alike, and barred regions in one order; what is told of moves is the same
pub record SameTurn (m n : Board) (g h : Game) (ws vs : List Written) : Type 0 where
  pub alike : AlikeGames (turn m g ws) (turn n h vs)
  pub barred : (turn m g ws).barred ≡ (turn n h vs).barred
  pub told : SameReports (reports m (ordered g.units ws)) (reports n (ordered h.units vs))

abbrev pub AnyOrder : Type 0
AnyOrder =
    (m n : Board) (g h : Game) (ws vs : List Written) → SameBoard m n → Lawful m g → AlikeGames g h → Shuffled Written ws vs → SameTurn m n g h ws vs

-- many phases, the texts of each in another order
pub data AlikeTurns : List (List Written) → List (List Written) → Type 0 where
  none : AlikeTurns [] []
  more : {ws vs : List Written} {ts us : List (List Written)} → Shuffled Written ws vs → AlikeTurns ts us → AlikeTurns (ws ∷ ts) (vs ∷ us)

-- two games that are one: alike, equal in the order of regions, and so is what comes of any further texts
pub record SamePlay (m n : Board) (g h : Game) : Type 0 where
  pub alike : AlikeGames g h
  pub region_by_region : SameByRegion g h
  pub further : (ws vs : List Written) → Shuffled Written ws vs → SameTurn m n g h ws vs

abbrev pub AnyOrderOfMany : Type 0
AnyOrderOfMany =
    (m n : Board) (g h : Game) (ts us : List (List Written)) → SameBoard m n → good_board m ≡ true → Lawful m g → AlikeGames g h → AlikeTurns ts us → SamePlay m n (play m ts g) (play n us h)
