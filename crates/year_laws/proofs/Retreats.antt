-- After retreats: just those stand who stood before or survived; so the game is lawful again.
use Rattle.std.proofs.Common.{◌≡◌, ℕ, Bool, true, false, cond, not, ◌&&◌, eqb, ltb, ◌⊎◌, List, [], ◌∷◌, Some, None, Option, sym, refl, ap, ◌∙◌, subst, inl, inr, arith}
use mathlib.Core.List.Memᴰ
use mathlib.Core.List.{Memᴰ}
use Rattle.std.proofs.lemmas.Bool.{true≢false, false≢true, eqb-true, eq-eqb, and_parts, and_from, not-true, not_from_false}
use Rattle.values.specs.Fold.{is_in}
use Rattle.board.specs.Board.{Board, can_stand, powers}
use Rattle.board.specs.Legal.{steps}
use Rattle.board.specs.declared.order.Order.{Order}
use Rattle.board.specs.declared.order.Order.TheVariants.{Hold, Move, SupportHold, SupportMove, Convoy}
use Rattle.board.specs.declared.unit.Unit.{Unit}
use Rattle.game.specs.declared.phase.Phase.{Phase}
use Rattle.game.specs.declared.phase.Phase.TheVariants.{SpringMoves, SpringRetreats, AutumnMoves, AutumnRetreats, Winter}
use Rattle.game.specs.declared.phase.Dislodged.{Dislodged}
use Rattle.game.specs.declared.text.Text.TheVariants.{Command}
use Rattle.game.specs.declared.text.Written.{Written}
use Rattle.game.specs.Game.{Game, is_retreats}
use Rattle.game.specs.Texts.{text_for, order_in}
use Rattle.game.specs.Retreats.{occupied, is_just, may_retreat, retreat_by, retreat_of, retreats_to, arrival, retreated, units_after_retreats}
use Rattle.game.specs.Lawful.{Lawful}
use Rattle.game.specs.Turn.{turn_in}
use Rattle.year_laws.specs.RetreatLaw.{Retreats, Arrived, RetreatLaw}
use Rattle.year_laws.proofs.Members.{any_none, none_any, list_in, in_list, each_at, each_of}
use Rattle.year_laws.proofs.Sorted.{Sorted, none, more, sorted_weaken, sorted_each, Apart, apart-map}
use Rattle.year_laws.proofs.Number.{number_one, number_sole}
use Rattle.year_laws.proofs.LawfulFacts.{region_of, Fine, fine_append, fine_units, fine_out, stands-power, Good}
use Rattle.year_laws.proofs.Moved.{to, steps_can}
use Rattle.year_laws.proofs.Texts.{just_some, some_just, text_only, only_text, order_move}

pub occupied_none : (r : ℕ) (us : List Unit) → occupied r us ≡ false → (u : Unit) → Memᴰ u us → u.region ≡ r → ⊥
occupied_none r us e u i f = any_none (λ v. eqb r v.region) us e u i (eq-eqb _ _ (sym f))

pub none_occupied : (r : ℕ) (us : List Unit) → ((u : Unit) → Memᴰ u us → u.region ≡ r → ⊥) → occupied r us ≡ false
none_occupied r us h = none_any (λ v. eqb r v.region) us (λ u i e. h u i (sym (eqb-true _ _ e)))

-- a test that isn't passed
false_from : (b : Bool) → (b ≡ true → ⊥) → b ≡ false
false_from true h = absurd (h refl)
false_from false h = refl

true_not : (b : Bool) → b ≡ false → b ≡ true → ⊥
true_not b e f = true≢false (sym f ∙ e)

by_move : (m : Board) (g : Game) (d : Dislodged) (o : Order) (t : ℕ) → retreat_by m g d o ≡ Some t → (o ≡ Move t false) × (may_retreat m g d t ≡ true)
by_move m g d Hold t e = let z : ◌≡◌ {A = ℕ} 0 1 = cc in absurd (omega arith)
by_move m g d (Move s true) t e = let z : ◌≡◌ {A = ℕ} 0 1 = cc in absurd (omega arith)
by_move m g d (Move s false) t e = go (may_retreat m g d s) refl e
  where
    go : (b : Bool) → may_retreat m g d s ≡ b → cond b (Some s) None ≡ Some t → (Move s false ≡ Move t false) × (may_retreat m g d t ≡ true)
    go true q e = let k : s ≡ t = cc in (ap (λ r. Move r false) k, subst (λ r. may_retreat m g d r ≡ true) k q)
    go false q e = let z : ◌≡◌ {A = ℕ} 0 1 = cc in absurd (omega arith)
by_move m g d (SupportHold r) t e = let z : ◌≡◌ {A = ℕ} 0 1 = cc in absurd (omega arith)
by_move m g d (SupportMove f s) t e = let z : ◌≡◌ {A = ℕ} 0 1 = cc in absurd (omega arith)
by_move m g d (Convoy f s) t e = let z : ◌≡◌ {A = ℕ} 0 1 = cc in absurd (omega arith)

module _ (m : Board) (g : Game) (ws : List Written) where
  pub retreat_is : (d : Dislodged) (t : ℕ) → retreat_of m g ws d ≡ Some t → Retreats m g ws d t
  retreat_is d t e =
      let q = by_move m g d (order_in (text_for d.unit.power d.unit.region ws)) t e in
      let a = and_parts (steps m d.unit t) (not (occupied t g.units) && (not (is_in t g.barred) && not (is_just t d.from))) q.1 in
      let b = and_parts (not (occupied t g.units)) (not (is_in t g.barred) && not (is_just t d.from)) a.1 in
      let c = and_parts (not (is_in t g.barred)) (not (is_just t d.from)) b.1 in
      record {
        wrote = text_only ws d.unit.power d.unit.region (Command (Move t false)) (order_move (text_for d.unit.power d.unit.region ws) t false q.0);
        step = a.0;
        empty = occupied_none t g.units (not-true _ b.0);
        unbarred = λ i. true_not (is_in t g.barred) (not-true _ c.0) (in_list t g.barred i);
        not_back = λ f. true_not (is_just t d.from) (not-true _ c.1) (some_just t d.from f);
      }

  pub is_retreat : (d : Dislodged) (t : ℕ) → Retreats m g ws d t → retreat_of m g ws d ≡ Some t
  is_retreat d t r = ap (λ x. retreat_by m g d (order_in x)) (only_text ws d.unit.power d.unit.region (Command (Move t false)) r.wrote) ∙ ap (λ b. cond b (Some t) None) may
    where
      may : may_retreat m g d t ≡ true
      may =
          and_from (steps m d.unit t) (not (occupied t g.units) && (not (is_in t g.barred) && not (is_just t d.from))) r.step
          (and_from (not (occupied t g.units)) (not (is_in t g.barred) && not (is_just t d.from)) (not_from_false _ (none_occupied t g.units r.empty))
          (and_from (not (is_in t g.barred)) (not (is_just t d.from)) (not_from_false _ (false_from _ (λ e. r.unbarred (list_in t g.barred e)))) (not_from_false _ (false_from _ (λ e. r.not_back (just_some t d.from e))))))

  abbrev wishes : ℕ → Dislodged → Bool
  wishes t d = is_just t (retreat_of m g ws d)

  wished : (t : ℕ) (d : Dislodged) → Retreats m g ws d t → wishes t d ≡ true
  wished t d r = some_just t (retreat_of m g ws d) (is_retreat d t r)

  unwished : (t : ℕ) (d : Dislodged) → wishes t d ≡ true → Retreats m g ws d t
  unwished t d e = retreat_is d t (just_some t (retreat_of m g ws d) e)

  -- one of those that arrive
  pub record Comes (u : Unit) (d : Dislodged) : Type 0 where
    pub goes : retreat_of m g ws d ≡ Some u.region
    pub sole : retreats_to m g ws u.region ≡ 1
    pub is : u ≡ to d.unit u.region

  pub arrival_comes : (u : Unit) (d : Dislodged) → Memᴰ u (arrival m g ws d.unit (retreat_of m g ws d)) → Comes u d
  arrival_comes u d i = go (retreat_of m g ws d) refl i
    where
      now : (t : ℕ) → retreat_of m g ws d ≡ Some t → (b : Bool) → eqb (retreats_to m g ws t) 1 ≡ b → Memᴰ u (cond b (to d.unit t ∷ []) []) → Comes u d
      now t e true f i =
          let q = Memᴰ.eq_of_singleton i in let r : u.region ≡ t = ap (λ v. v.region) q in
          record { goes = e ∙ ap Some (sym r); sole = ap (retreats_to m g ws) r ∙ eqb-true _ _ f; is = q ∙ ap (to d.unit) (sym r) }
      now t e false f i = elim i [ ]

      go : (o : Option ℕ) → retreat_of m g ws d ≡ o → Memᴰ u (arrival m g ws d.unit o) → Comes u d
      go None e i = elim i [ ]
      go (Some t) e i = now t e (eqb (retreats_to m g ws t) 1) refl i

  comes_arrival : (u : Unit) (d : Dislodged) → Comes u d → Memᴰ u (arrival m g ws d.unit (retreat_of m g ws d))
  comes_arrival u d c = subst (λ o. Memᴰ u (arrival m g ws d.unit o)) (sym c.goes) (subst (λ n. Memᴰ u (cond (eqb n 1) (to d.unit u.region ∷ []) [])) (sym c.sole) (Memᴰ.head c.is))

  -- two of the dislodged, in different regions
  abbrev Others : Dislodged → Dislodged → Type 0
  Others d e = Memᴰ d g.dislodged × Memᴰ e g.dislodged × (d.unit.region ≡ e.unit.region → ⊥)

  module _ (l : Lawful m g) where
    out_apart_of : Apart (λ d. d.unit.region) g.dislodged
    out_apart_of = apart-map region_of (λ d. d.unit) g.dislodged (fine_out l).apart

    pub arrived_of : (u : Unit) → Memᴰ u (retreated m g ws) → Arrived m g ws u
    arrived_of u i =
        let q = each_at (λ d. arrival m g ws d.unit (retreat_of m g ws d)) g.dislodged u i in
        let c = arrival_comes u q.0 q.2 in
        record {
          was = q.0;
          one_of = q.1;
          survives = record { retreats = retreat_is q.0 u.region c.goes; alone = λ e j r. number_sole (wishes u.region) g.dislodged c.sole e q.0 j q.1 (wished u.region e r) (some_just _ _ c.goes) };
          power = ap (λ v. v.power) c.is;
          kind = ap (λ v. v.fleet) c.is;
        }

    pub of_arrived : (u : Unit) → Arrived m g ws u → Memᴰ u (retreated m g ws)
    of_arrived u a =
        each_of (λ d. arrival m g ws d.unit (retreat_of m g ws d)) g.dislodged u a.was a.one_of
        (comes_arrival u a.was
        (record {
          goes = is_retreat a.was u.region a.survives.retreats;
          sole = number_one (λ d. d.unit.region) (wishes u.region) g.dislodged out_apart_of a.was a.one_of (wished u.region a.was a.survives.retreats) (λ e j f. ap (λ d. d.unit.region) (a.survives.alone e j (unwished u.region e f)));
          is = λ i. record { power = a.power i; region = u.region; fleet = a.kind i };
        }))

    pub retreats_fine : Good m → Fine m (units_after_retreats m g ws)
    retreats_fine gm =
        fine_append g.units (retreated m g ws) (fine_units l)
        (record { apart = apart; stand = λ u i. (let a = arrived_of u i in and_from (can_stand m u.fleet u.region) (ltb u.power powers) (subst (λ f. can_stand m f u.region ≡ true) (sym a.kind) (steps_can m gm a.was.unit u.region a.survives.retreats.step)) (ap (λ p. ltb p powers) a.power ∙ stands-power m a.was.unit ((fine_out l).stand a.was.unit (Memᴰ.map (λ d. d.unit) a.one_of)))) })
        (λ u v i j e. (arrived_of v j).survives.retreats.empty u i e)
      where
        others : Sorted Others g.dislodged
        others = sorted_weaken (λ d e i j n. (i, j, n)) out_apart_of

        clash : (d e : Dislodged) (u v : Unit) → Others d e → Memᴰ u (arrival m g ws d.unit (retreat_of m g ws d)) → Memᴰ v (arrival m g ws e.unit (retreat_of m g ws e)) → u.region ≡ v.region → ⊥
        clash d e u v o i j s =
            let a = arrival_comes u d i in let b = arrival_comes v e j in
            o.2 (ap (λ x. x.unit.region) (number_sole (wishes u.region) g.dislodged a.sole d e o.0 o.1 (some_just _ _ a.goes) (some_just _ _ (b.goes ∙ ap Some (sym s)))))

        single : (d : Dislodged) → Apart region_of (arrival m g ws d.unit (retreat_of m g ws d))
        single d = go (retreat_of m g ws d)
          where
            now : (t : ℕ) (b : Bool) → Apart region_of (cond b (to d.unit t ∷ []) [])
            now t true = more (λ y i. elim i [ ]) none
            now t false = none

            go : (o : Option ℕ) → Apart region_of (arrival m g ws d.unit o)
            go None = none
            go (Some t) = now t (eqb (retreats_to m g ws t) 1)

        apart : Apart region_of (retreated m g ws)
        apart = sorted_each (λ d. arrival m g ws d.unit (retreat_of m g ws d)) single clash g.dislodged others

    to_units : (u : Unit) → Memᴰ u (units_after_retreats m g ws) → Memᴰ u g.units ⊎ Arrived m g ws u
    to_units u i = elim (Memᴰ.append_cases g.units i) [ inl j ↦ inl j | inr j ↦ inr (arrived_of u j) ]

    from_units : (u : Unit) → Memᴰ u g.units ⊎ Arrived m g ws u → Memᴰ u (units_after_retreats m g ws)
    from_units u (inl i) = Memᴰ.append_left (retreated m g ws) i
    from_units u (inr a) = Memᴰ.append_right g.units (of_arrived u a)

pub retreat_law : RetreatLaw
retreat_law m g ws l ph u = go g.phase ph
  where
    go : (p : Phase) → is_retreats p ≡ true → (Memᴰ u (turn_in p m g ws).units → Memᴰ u g.units ⊎ Arrived m g ws u) × (Memᴰ u g.units ⊎ Arrived m g ws u → Memᴰ u (turn_in p m g ws).units)
    go SpringMoves e = absurd (false≢true e)
    go SpringRetreats e = (to_units m g ws l u, from_units m g ws l u)
    go AutumnMoves e = absurd (false≢true e)
    go AutumnRetreats e = (to_units m g ws l u, from_units m g ws l u)
    go Winter e = absurd (false≢true e)
