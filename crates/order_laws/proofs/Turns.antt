-- Phases in any order of units, texts, those dislodged, barred regions and edges.
use Rattle.std.proofs.Common.{◌≡◌, true, List, sym, refl, ap, ◌∙◌, subst, arith}
use mathlib.Core.List.{Memᴰ}
use Rattle.values.specs.Fold.{is_in, distinct}
use Rattle.values.specs.Shuffle.{Shuffled, nothing, twice}
use Rattle.values.specs.declared.tri.Tri.{Tri}
use Rattle.values.specs.declared.tri.Tri.TheVariants.{Yes}
use Rattle.values.specs.Tri.{is_yes}
use Rattle.values.proofs.Shuffled.{shuffle_eq, one_selected}
use Rattle.board.specs.Board.{Board, powers}
use Rattle.assignment.specs.declared.resolution.Resolution.{Resolution}
use Rattle.assignment.specs.Assignment.{dislodged}
use Rattle.deciding.specs.Outcome.{outcome}
use Rattle.deciding_laws.specs.Dislodged.{ByOneForeigner}
use Rattle.deciding_laws.proofs.DislodgedByOne.{dislodged_by_one}
use Rattle.game.specs.declared.phase.Phase.{Phase}
use Rattle.game.specs.declared.phase.Phase.TheVariants.{SpringMoves, SpringRetreats, AutumnMoves, AutumnRetreats, Winter}
use Rattle.game.specs.declared.text.Written.{Written}
use Rattle.game.specs.Game.{Game, next}
use Rattle.game.specs.Texts.{ordered}
use Rattle.game.specs.AfterMoves.{came, is_dislodged}
use Rattle.game.specs.Lawful.{places}
use Rattle.game.specs.Winter.{winters}
use Rattle.game.specs.Turn.{moves, turn_in, turn, play}
use Rattle.year_laws.proofs.Kept.{lawful_kept}
use Rattle.order_laws.specs.Edges.{SameBoard}
use Rattle.order_laws.specs.Deciding.{report_region}
use Rattle.order_laws.specs.Turns.{unit_region, dislodged_region, AnyOrderByRegion, AlikeGames, SameTurn, AnyOrder, none, more, AnyOrderOfMany}
use Rattle.order_laws.proofs.Deciding.{by_region_same, outcome_same, reports_same}
use Rattle.order_laws.proofs.AfterMoves.{ordered_same, ordered-apart, ByOne, standing_same, displaced_same, contested_same}
use Rattle.order_laws.proofs.Retreats.{retreats_same, owners_after}
use Rattle.order_laws.proofs.Winter.{winters_same}
use Rattle.order_laws.proofs.Standing.{same_by_region}

pub any_order_by_region : AnyOrderByRegion
any_order_by_region n =
    ((λ us vs s d. by_region_same unit_region n s d), (λ ds es s d. by_region_same dislodged_region n s d), (λ xs ys s d. by_region_same report_region n s d))

-- alike, with barred regions in one order
record After (g h : Game) : Type 0 where
  alike : AlikeGames g h
  barred : g.barred ≡ h.barred

module _ (m n : Board) (b : SameBoard m n) (g h : Game) (a : AlikeGames g h) (d : distinct (places g.units) ≡ true) {ws vs : List Written} (w : Shuffled Written ws vs) (one : ByOne (outcome m (ordered g.units ws))) where
  decided_alike : Shuffled Resolution (outcome m (ordered g.units ws)) (outcome n (ordered h.units vs))
  decided_alike = outcome_same m n b (ordered_same a.units w) (ordered-apart g.units ws d)

  after-moves : After (moves m g ws) (moves n h vs)
  after-moves =
      let c = contested_same m n b decided_alike in
      record {
        alike = record { phase = ap next a.phase; units = standing_same decided_alike; dislodged = displaced_same decided_alike one; barred = λ r. ap (is_in r) c; owners = a.owners };
        barred = c;
      }

  after-phase : (p : Phase) → After (turn_in p m g ws) (turn_in p n h vs)
  after-phase SpringMoves = after-moves
  after-phase SpringRetreats = record { alike = record { phase = refl; units = retreats_same m n b g h a w; dislodged = nothing; barred = λ r. refl; owners = a.owners }; barred = refl }
  after-phase AutumnMoves = after-moves
  after-phase AutumnRetreats =
      record { alike = record { phase = refl; units = retreats_same m n b g h a w; dislodged = nothing; barred = λ r. refl; owners = owners_after m n b g h a w d }; barred = refl }
  after-phase Winter =
      record {
        alike = record {
          phase = refl;
          units = twice (winters_same m n b g.owners w powers a.units) (shuffle_eq (ap (λ o. winters n o vs powers h.units) a.owners));
          dislodged = nothing;
          barred = λ r. refl;
          owners = a.owners;
        };
        barred = refl;
      }

  same_turn : SameTurn m n g h ws vs
  same_turn =
      let t : After (turn m g ws) (turn n h vs) = subst (λ q. After (turn_in g.phase m g ws) (turn_in q n h vs)) a.phase (after-phase g.phase) in
      record { alike = t.alike; barred = t.barred; told = reports_same m n b (ordered_same a.units w) (ordered-apart g.units ws d) }

-- ---- a unit is dislodged by one move
yes_is : (t : Tri) → is_yes t ≡ true → t ≡ Yes
yes_is t e = grind arith

by_one : (m : Board) (g : Game) (ws : List Written) → distinct (places g.units) ≡ true → ByOne (outcome m (ordered g.units ws))
by_one m g ws d = record { one = λ x i e y z j k p q. first x i e y j p ∙ sym (first x i e z k q) }
  where
    zs : List Resolution
    zs = outcome m (ordered g.units ws)

    mover : (x : Resolution) → Memᴰ x zs → is_dislodged zs x ≡ true → ByOneForeigner zs x
    mover x i e = dislodged_by_one m (ordered g.units ws) (ordered-apart g.units ws d) x i (yes_is (dislodged x zs) e)

    first : (x : Resolution) (i : Memᴰ x zs) (e : is_dislodged zs x ≡ true) (y : Resolution) → Memᴰ y zs → came x.unit.region y ≡ true → y ≡ (mover x i e).by
    first x i e y j p = one_selected (came x.unit.region) zs (mover x i e).by (mover x i e).alone y j p

-- ---- one phase, and many
pub any_order : AnyOrder
any_order m n g h ws vs b l a w = same_turn m n b g h a l.apart w (by_one m g ws l.apart)

pub any_order_of_many : AnyOrderOfMany
unfolding play
any_order_of_many m n g h _ _ b gb l a none = record { alike = a; region_by_region = same_by_region m g h a l; further = λ ws vs w. any_order m n g h ws vs b l a w }
any_order_of_many m n g h _ _ b gb l a (more {ws = ws} {vs = vs} {ts = ts} {us = us} w r) =
    any_order_of_many m n (turn m g ws) (turn n h vs) ts us b gb (lawful_kept m g ws gb l) (any_order m n g h ws vs b l a w).alike r
