-- Nobody gains a unit but in winter, moves lose nobody, and after a winter nobody has more units than centres.
use Rattle.std.proofs.Common.{◌≡◌, ℕ, ◌<◌, ◌≤◌, Bool, true, false, cond, not, ◌&&◌, ◌||◌, eqb, ltb, List, [], ◌∷◌, ◌++◌, length, Some, None, Option, sym, refl, ap, ◌∙◌, subst, inl, inr, arith}
use Rattle.std.proofs.lemmas.List.{nil_from_length, append-nil}
use Rattle.std.proofs.lemmas.Bool.{false≢true, cases_Bool, ltb-true, ltb-false, eqb-true, and_parts}
use Rattle.values.specs.Fold.{gather, number}
use Rattle.board.specs.Board.{Board, powers}
use Rattle.board.specs.declared.unit.Unit.{Unit}
use Rattle.assignment.specs.declared.resolution.Resolution.{Resolution}
use Rattle.deciding.specs.Outcome.{outcome}
use Rattle.game.specs.declared.phase.Phase.{Phase}
use Rattle.game.specs.declared.phase.Phase.TheVariants.{SpringMoves, SpringRetreats, AutumnMoves, AutumnRetreats, Winter}
use Rattle.game.specs.declared.phase.Dislodged.{Dislodged}
use Rattle.game.specs.declared.text.Written.{Written}
use Rattle.game.specs.Game.{Game, is_moves, is_retreats}
use Rattle.game.specs.Texts.{ordered}
use Rattle.game.specs.AfterMoves.{moved_unit, is_dislodged, standing, displaced}
use Rattle.game.specs.Retreats.{retreat_of, retreats_to, arrival, retreated, units_after_retreats}
use Rattle.game.specs.Winter.{of_power, units_of, centres_of, units_after_winter}
use Rattle.game.specs.Lawful.{units_in, Lawful}
use Rattle.game.specs.Turn.{turn_in}
use Rattle.year_laws.specs.Counts.{forces, NobodyGains, MovesLoseNobody, WinterBalances}
use Rattle.year_laws.proofs.Number.{number_append, number_none, number-map, number-pick, number_halves, number-each}
use Rattle.year_laws.proofs.LawfulFacts.{stands_placed}
use Rattle.year_laws.proofs.Moved.{to, moved_power, unit_of, outcome_units, displaced_units}
use Rattle.year_laws.proofs.Winters.{winters_fine, power_winter}

-- ---- moves
moves_count : (m : Board) (us : List Unit) (ws : List Written) (p : ℕ) → units_of p (standing (outcome m (ordered us ws)) ++ units_in (displaced (outcome m (ordered us ws)))) ≡ units_of p us
moves_count m us ws p =
    let a = number_append (of_power p) (standing xs) (units_in (displaced xs)) in
    let b = number-pick (of_power p) (λ x. not (is_dislodged xs x)) moved_unit xs in
    let c : number (λ x. not (is_dislodged xs x) && of_power p (moved_unit x)) xs ≡ number (λ x. not (is_dislodged xs x) && of_power p x.unit) xs = λ i. number (λ x. not (is_dislodged xs x) && eqb p (moved_power x i)) xs in
    let d = ap (units_of p) (displaced_units xs) ∙ number-pick (of_power p) (is_dislodged xs) unit_of xs in
    let e = number_halves (λ x. of_power p x.unit) (is_dislodged xs) xs in
    let f = sym (number-map (of_power p) unit_of xs) ∙ ap (units_of p) (outcome_units m us ws) in
    omega (arith, a, b, c, d, e, f)
  where
    xs : List Resolution
    xs = outcome m (ordered us ws)

-- ---- retreats
arrival_count : (m : Board) (g : Game) (ws : List Written) (p : ℕ) (d : Dislodged) → units_of p (arrival m g ws d.unit (retreat_of m g ws d)) ≤ cond (of_power p d.unit) 1 0
unfolding gather
arrival_count m g ws p d = go (retreat_of m g ws d)
  where
    now : (t : ℕ) (b : Bool) → units_of p (cond b (to d.unit t ∷ []) []) ≤ cond (of_power p d.unit) 1 0
    now t true = omega arith
    now t false = omega arith

    go : (o : Option ℕ) → units_of p (arrival m g ws d.unit o) ≤ cond (of_power p d.unit) 1 0
    go None = omega arith
    go (Some t) = now t (eqb (retreats_to m g ws t) 1)

retreats_count : (m : Board) (g : Game) (ws : List Written) (p : ℕ) → units_of p (units_after_retreats m g ws ++ []) ≤ units_of p (forces g)
retreats_count m g ws p =
    let a = ap (units_of p) (append-nil (units_after_retreats m g ws)) in
    let b = number_append (of_power p) g.units (retreated m g ws) in
    let c = number-each (of_power p) (λ d. of_power p d.unit) (λ d. arrival m g ws d.unit (retreat_of m g ws d)) g.dislodged (arrival_count m g ws p) in
    let d = number_append (of_power p) g.units (units_in g.dislodged) in
    let e = number-map (of_power p) (λ x. x.unit) g.dislodged in
    omega (arith, a, b, c, d, e)

pub nobody_gains_lem : NobodyGains
nobody_gains_lem m g ws n p = go g.phase n
  where
    moved : units_of p (standing (outcome m (ordered g.units ws)) ++ units_in (displaced (outcome m (ordered g.units ws)))) ≤ units_of p (forces g)
    moved = omega (arith, moves_count m g.units ws p, number_append (of_power p) g.units (units_in g.dislodged))

    go : (q : Phase) → (q ≡ Winter → ⊥) → units_of p (forces (turn_in q m g ws)) ≤ units_of p (forces g)
    go SpringMoves n = moved
    go SpringRetreats n = retreats_count m g ws p
    go AutumnMoves n = moved
    go AutumnRetreats n = retreats_count m g ws p
    go Winter n = absurd (n refl)

-- ---- nobody waits before moves
not_retreats : (q : Phase) → is_moves q ≡ true → is_retreats q ≡ false
not_retreats SpringMoves e = refl
not_retreats SpringRetreats e = absurd (false≢true e)
not_retreats AutumnMoves e = refl
not_retreats AutumnRetreats e = absurd (false≢true e)
not_retreats Winter e = refl

nobody_waits : (m : Board) (g : Game) → Lawful m g → is_retreats g.phase ≡ false → g.dislodged ≡ []
nobody_waits m g l e = nil_from_length g.dislodged (eqb-true _ _ (and_parts (eqb (length g.dislodged) 0) (eqb (length g.barred) 0) (subst (λ b. (b || (eqb (length g.dislodged) 0 && eqb (length g.barred) 0)) ≡ true) e l.calm)).0)

pub moves_lose_nobody : MovesLoseNobody
moves_lose_nobody m g ws l ph p = go g.phase ph
  where
    before : units_of p g.units ≡ units_of p (forces g)
    before = ap (units_of p) (sym (ap (λ ds. g.units ++ units_in ds) (nobody_waits m g l (not_retreats g.phase ph)) ∙ append-nil g.units))

    go : (q : Phase) → is_moves q ≡ true → units_of p (forces (turn_in q m g ws)) ≡ units_of p (forces g)
    go SpringMoves e = moves_count m g.units ws p ∙ before
    go SpringRetreats e = absurd (false≢true e)
    go AutumnMoves e = moves_count m g.units ws p ∙ before
    go AutumnRetreats e = absurd (false≢true e)
    go Winter e = absurd (false≢true e)

-- ---- winter
winter_count : (m : Board) (g : Game) (ws : List Written) → Lawful m g → (p : ℕ) → units_of p (units_after_winter m g.owners ws g.units) ≤ centres_of p g.owners
winter_count m g ws l p = elim (cases_Bool (ltb p powers)) [ inl e ↦ mine (ltb-true _ _ e) | inr e ↦ omega (arith, nobodys (ltb-false _ _ e)) ]
  where
    mine : p < powers → units_of p (units_after_winter m g.owners ws g.units) ≤ centres_of p g.owners
    mine h = elim (cases_Bool (ltb (centres_of p g.owners) (units_of p g.units))) [ inl e ↦ omega (arith, ((power_winter m g ws l p h).disbands (ltb-true _ _ e)).left) | inr e ↦ ((power_winter m g ws l p h).builds (ltb-false _ _ e)).few ]

    nobodys : powers ≤ p → units_of p (units_after_winter m g.owners ws g.units) ≡ 0
    nobodys h = number_none (of_power p) (units_after_winter m g.owners ws g.units) (λ u i e. omega (arith, (stands_placed m u ((winters_fine m g ws l powers (omega arith)).stand u i)).power, eqb-true _ _ e))

pub winter_balances : WinterBalances
winter_balances m g ws l e p = subst (λ q. units_of p (forces (turn_in q m g ws)) ≤ centres_of p (turn_in q m g ws).owners) (sym e) (omega (arith, winter_count m g ws l p, ap (units_of p) (append-nil (units_after_winter m g.owners ws g.units))))
