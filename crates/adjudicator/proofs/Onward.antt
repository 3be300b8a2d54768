-- The tables after a phase are the next game, and that game is lawful.
use Rattle.std.proofs.Common.{◌≡◌, ℕ, zero, suc, ◌+◌, ◌<◌, Bool, true, false, cond, ◌&&◌, List, [], ◌∷◌, length, Some, None, Option, sym, refl, ap, ◌∙◌, arith}
use Rattle.std.proofs.lemmas.Bool.{false≢true, lt-ltb}
use Rattle.values.specs.Fold.{gather, select, those, count_up}
use Rattle.geography.specs.declared.region_set.RegionSet.{RegionSet}
use Rattle.geography.specs.RegionSet.{has, Holds, empty}
use Rattle.geography.proofs.Bitwise.{has_none}
use Rattle.board.specs.declared.unit.Unit.{Unit}
use Rattle.board.specs.Board.{Board, good_board}
use Rattle.deciding.specs.Outcome.{outcome}
use Rattle.game.specs.declared.phase.Phase.{Phase}
use Rattle.game.specs.declared.phase.Phase.TheVariants.{SpringMoves, SpringRetreats, AutumnMoves, AutumnRetreats, Winter}
use Rattle.game.specs.declared.phase.Dislodged.{Dislodged}
use Rattle.game.specs.declared.text.Written.{Written}
use Rattle.game.specs.Game.{Game, is_moves, next}
use Rattle.game.specs.Texts.{ordered}
use Rattle.game.specs.AfterMoves.{standing, displaced, contested}
use Rattle.game.specs.Retreats.{units_after_retreats}
use Rattle.game.specs.Owners.{owners_from}
use Rattle.game.specs.Winter.{units_after_winter}
use Rattle.game.specs.Turn.{turn, turn_in, moves}
use Rattle.game.specs.Lawful.{lawful}
use Rattle.year_laws.proofs.LawfulFacts.{lawful_facts, facts_lawful}
use Rattle.year_laws.proofs.Kept.{lawful_kept}
use Rattle.adjudicator.proofs.Bounds.{those_in}

-- two tests that agree below n pick the same numbers below n
select_same : (f g : ℕ → Bool) (a n : ℕ) → ((q : ℕ) → q < a + n → f q ≡ g q) → select f (count_up a n) ≡ select g (count_up a n)
unfolding gather count_up
select_same f g a zero h = refl
select_same f g a (suc n) h =
    let rest = select_same f g (a + 1) n (λ q l. h q (omega arith)) in
    let here = h a (omega arith) in
    λ i. cond (here i) (a ∷ rest i) (rest i)

pub those_same : (n : ℕ) (f g : ℕ → Bool) → ((q : ℕ) → q < n → f q ≡ g q) → those n f ≡ those n g
those_same n f g h = select_same f g 0 n (λ q l. h q (omega arith))

pub those_held : (n : ℕ) (s : RegionSet) (test : ℕ → Bool) → Holds s (those n test) → those n (has s) ≡ those n test
those_held n s test h = those_same n (has s) test (λ q l. h q ∙ sym (those_in n test q) ∙ ap (λ b. b && test q) (lt-ltb q n l))

select_none : (a n : ℕ) → select (λ q. false) (count_up a n) ≡ []
unfolding gather count_up
select_none a zero = refl
select_none a (suc n) = select_none (a + 1) n

pub those_none : (n : ℕ) → those n (has empty) ≡ []
those_none n = those_same n (has empty) (λ q. false) (λ q l. has_none q) ∙ select_none 0 n

turn-moves : (ph : Phase) (m : Board) (g : Game) (ws : List Written) → is_moves ph ≡ true → moves m g ws ≡ turn_in ph m g ws
turn-moves SpringMoves m g ws e = refl
turn-moves SpringRetreats m g ws e = absurd (false≢true e)
turn-moves AutumnMoves m g ws e = refl
turn-moves AutumnRetreats m g ws e = absurd (false≢true e)
turn-moves Winter m g ws e = absurd (false≢true e)

abbrev pub made_of : Board → Phase → List Unit → List Dislodged → RegionSet → List (Option ℕ) → Game
made_of m ph us ds s os = record { phase = ph; units = us; dislodged = ds; barred = those (length m.regions) (has s); owners = os }

module _ (m : Board) (g : Game) (ws : List Written) where
  pub after-moves : (ph : Phase) (us : List Unit) (ds : List Dislodged) (s : RegionSet) → is_moves g.phase ≡ true → ph ≡ next g.phase →
      us ≡ standing (outcome m (ordered g.units ws)) → ds ≡ displaced (outcome m (ordered g.units ws)) → Holds s (contested m (outcome m (ordered g.units ws))) → made_of m ph us ds s g.owners ≡ turn m g ws
  after-moves ph us ds s e p u d b =
      let held = those_held (length m.regions) s _ b in
      (λ i. record { phase = p i; units = u i; dislodged = d i; barred = held i; owners = g.owners }) ∙ turn-moves g.phase m g ws e

  pub after_spring : (us : List Unit) → g.phase ≡ SpringRetreats → us ≡ units_after_retreats m g ws → made_of m (next g.phase) us [] empty g.owners ≡ turn m g ws
  after_spring us e u =
      let none = those_none (length m.regions) in
      (λ i. record { phase = next (e i); units = u i; dislodged = []; barred = none i; owners = g.owners }) ∙ ap (λ ph. turn_in ph m g ws) (sym e)

  pub after_autumn : (us : List Unit) (os : List (Option ℕ)) → g.phase ≡ AutumnRetreats → us ≡ units_after_retreats m g ws → os ≡ owners_from 0 m.regions us g.owners →
      made_of m (next g.phase) us [] empty os ≡ turn m g ws
  after_autumn us os e u o =
      let none = those_none (length m.regions) in
      let owned = o ∙ ap (λ vs. owners_from 0 m.regions vs g.owners) u in
      (λ i. record { phase = next (e i); units = u i; dislodged = []; barred = none i; owners = owned i }) ∙ ap (λ ph. turn_in ph m g ws) (sym e)

  pub after_winter : (us : List Unit) → g.phase ≡ Winter → us ≡ units_after_winter m g.owners ws g.units → made_of m (next g.phase) us [] empty g.owners ≡ turn m g ws
  after_winter us e u =
      let none = those_none (length m.regions) in
      (λ i. record { phase = next (e i); units = u i; dislodged = []; barred = none i; owners = g.owners }) ∙ ap (λ ph. turn_in ph m g ws) (sym e)

  -- what is the next game is lawful
  pub stays-lawful : good_board m ≡ true → lawful m g ≡ true → (h : Game) → h ≡ turn m g ws → lawful m h ≡ true
  stays-lawful good legal h e = ap (lawful m) e ∙ facts_lawful m (turn m g ws) (lawful_kept m g ws good (lawful_facts m g legal))

-- what is told is what was told last, or else that stays
pub told_new : {A : Type 0} (b : Bool) (xs new old : A) → Some xs ≡ cond b (Some new) None → xs ≡ cond b new old
told_new true xs new old e = cc
told_new false xs new old e = absurd (let z : ◌≡◌ {A = ℕ} 0 1 = cc in omega arith)

pub told_old : {A : Type 0} (b : Bool) (new old : A) → None ≡ cond b (Some new) None → old ≡ cond b new old
told_old true new old e = absurd (let z : ◌≡◌ {A = ℕ} 0 1 = cc in omega arith)
told_old false new old e = refl
