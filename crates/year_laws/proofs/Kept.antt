-- Every phase leads from a lawful game to a lawful one. From what each phase does to units, and from units that stand apart after moves.
use Rattle.std.proofs.Common.{◌≡◌, ℕ, true, List, [], ◌∷◌, map, Option, refl, ap, ◌∙◌, arith}
use Rattle.std.proofs.lemmas.Bool.{or_right}
use Rattle.values.specs.Fold.{all, distinct, pick}
use Rattle.board.specs.Board.{Board, powers}
use Rattle.board.specs.declared.unit.Unit.{Unit}
use Rattle.assignment.specs.declared.resolution.Resolution.{Resolution}
use Rattle.deciding.specs.Outcome.{outcome}
use Rattle.deciding_laws.specs.UnitsApart.{stays_on_board}
use Rattle.deciding_laws.proofs.UnitsApart.{units_apart}
use Rattle.game.specs.declared.phase.Phase.{Phase}
use Rattle.game.specs.declared.phase.Phase.TheVariants.{SpringMoves, SpringRetreats, AutumnMoves, AutumnRetreats, Winter}
use Rattle.game.specs.declared.text.Written.{Written}
use Rattle.game.specs.Game.{is_moves, is_retreats}
use Rattle.game.specs.Texts.{ordered}
use Rattle.game.specs.AfterMoves.{moved_unit, standing}
use Rattle.game.specs.Retreats.{units_after_retreats}
use Rattle.game.specs.Winter.{units_after_winter}
use Rattle.game.specs.Lawful.{places, good_owners, Lawful}
use Rattle.game.specs.Turn.{moves, turn, turn_in, play}
use Rattle.year_laws.specs.Kept.{LawfulKept, LawfulPlayed}
use Rattle.year_laws.proofs.LawfulFacts.{region_of, Fine, fine_apart, fine_stand, stands-power, good}
use Rattle.year_laws.proofs.Moved.{moved_region, map-pick, moves-lawful}
use Rattle.year_laws.proofs.Retreats.{retreats_fine}
use Rattle.year_laws.proofs.Owners.{owners_good}
use Rattle.year_laws.proofs.Winters.{winters_fine}

-- with nobody dislodged and nothing barred
calm_lawful : (m : Board) (p : Phase) (us : List Unit) (os : List (Option ℕ)) → Fine m us → good_owners m.regions os ≡ true → Lawful m (record { phase = p; units = us; dislodged = []; barred = []; owners = os })
unfolding distinct all
calm_lawful m p us os f o = record { apart = fine_apart us f; stand = fine_stand us f; out_apart = refl; out_stand = refl; out_from = refl; owned = o; on_the_board = refl; calm = or_right (is_retreats p) true refl }

pub ordered-places : (us : List Unit) (ws : List Written) → map (λ o. o.unit.region) (ordered us ws) ≡ places us
ordered-places [] ws = refl
ordered-places (u ∷ us) ws = ap (λ r. u.region ∷ r) (ordered-places us ws)

-- no two units stand in one region after moves
pub standing_apart : (m : Board) (us : List Unit) (ws : List Written) → distinct (places us) ≡ true → distinct (places (standing (outcome m (ordered us ws)))) ≡ true
standing_apart m us ws d = ap distinct (map-pick region_of (stays_on_board xs) moved_unit xs ∙ (λ i. pick (stays_on_board xs) (λ x. moved_region x i) xs)) ∙ (units_apart m (ordered us ws) (ap distinct (ordered-places us ws) ∙ d)).regions
  where
    xs : List Resolution
    xs = outcome m (ordered us ws)

pub lawful_kept : LawfulKept
lawful_kept m g ws gb l = go g.phase refl
  where
    moved : is_moves g.phase ≡ true → Lawful m (moves m g ws)
    moved e = moves-lawful m g ws gb l e (standing_apart m g.units ws l.apart)

    arrived : Fine m (units_after_retreats m g ws)
    arrived = retreats_fine m g ws l (good m gb)

    go : (p : Phase) → g.phase ≡ p → Lawful m (turn_in p m g ws)
    go SpringMoves e = moved (ap is_moves e)
    go SpringRetreats e = calm_lawful m AutumnMoves (units_after_retreats m g ws) g.owners arrived l.owned
    go AutumnMoves e = moved (ap is_moves e)
    go AutumnRetreats e = calm_lawful m Winter (units_after_retreats m g ws) (turn_in AutumnRetreats m g ws).owners arrived (owners_good 0 m.regions (units_after_retreats m g ws) g.owners l.owned (λ u i. stands-power m u (arrived.stand u i)))
    go Winter e = calm_lawful m SpringMoves (units_after_winter m g.owners ws g.units) g.owners (winters_fine m g ws l powers (omega arith)) l.owned

pub lawful-played : LawfulPlayed
unfolding play
lawful-played m g [] gb l = l
lawful-played m g (ws ∷ turns) gb l = lawful-played m (turn m g ws) turns gb (lawful_kept m g ws gb l)
