-- After moves: units and orders are as they were written, and whoever moved stands where its kind can be. From legal orders on a good board.
use Rattle.std.proofs.Common.{◌≡◌, ℕ, Bool, true, false, cond, not, ◌&&◌, eqb, ltb, List, [], ◌∷◌, map, length, Some, None, sym, refl, ap, ◌∙◌, subst, inl, inr}
use mathlib.Core.List.Memᴰ
use mathlib.Core.List.{Memᴰ}
use Rattle.std.proofs.lemmas.Bool.{false≢true, eqb-true, lt-ltb, and_parts, and_from, or_cases, or_left}
use Rattle.values.specs.Fold.{gather, any, all, pick, distinct}
use Rattle.values.specs.Tri.{is_yes}
use Rattle.geography.specs.declared.links.Edge.{Edge}
use Rattle.geography.specs.Links.{joins, linked}
use Rattle.board.specs.declared.region.Kind.{Kind}
use Rattle.board.specs.declared.region.Kind.TheVariants.{Land, Coast, Sea}
use Rattle.board.specs.declared.order.Order.{Order}
use Rattle.board.specs.declared.order.Order.TheVariants.{Hold, Move, SupportHold, SupportMove, Convoy}
use Rattle.board.specs.declared.unit.Unit.{Unit}
use Rattle.board.specs.Board.{Board, on_board, coastal, can_stand, stands, sailable, marchable, is_coast, region_at, powers, good_edge, good_board}
use Rattle.board.specs.Order.{is_move, aim, is_convoyed}
use Rattle.board.specs.Legal.{steps, crosses, legal, as_played}
use Rattle.assignment.specs.declared.resolution.Resolution.{Resolution}
use Rattle.deciding.specs.Outcome.{Ordered, fresh_one, fresh, outcome}
use Rattle.deciding_laws.proofs.Consistent.{outcome_same}
use Rattle.game.specs.declared.phase.Phase.{Phase}
use Rattle.game.specs.declared.phase.Phase.TheVariants.{SpringMoves, SpringRetreats, AutumnMoves, AutumnRetreats, Winter}
use Rattle.game.specs.declared.text.Written.{Written}
use Rattle.game.specs.Game.{Game, is_moves, is_retreats, next}
use Rattle.game.specs.Texts.{ordered_one, ordered}
use Rattle.game.specs.AfterMoves.{came, moved_unit, is_dislodged, standing, origin_of, attacked_from, displaced, bounced, contested}
use Rattle.game.specs.Lawful.{places, units_in, from_board, Lawful}
use Rattle.game.specs.Turn.{moves}
use Rattle.year_laws.proofs.Members.{all-at, all_of, any_at, pick_at, those-at}
use Rattle.year_laws.proofs.Sorted.{Part, part_pick}
use Rattle.year_laws.proofs.LawfulFacts.{Fine, fine_apart, fine_stand, fine_units, fine_part, stands_can, stands-power, can_on_board, Good, good}

-- ---- units and orders are never changed
abbrev pub unit_of : Resolution → Unit
unit_of x = x.unit

abbrev pub label : Resolution → Ordered
label x = record { unit = x.unit; order = x.order }

fresh_units : (m : Board) (us : List Unit) (ws : List Written) → map unit_of (fresh m (ordered us ws)) ≡ us
fresh_units m [] ws = refl
fresh_units m (u ∷ us) ws = ap (λ r. u ∷ r) (fresh_units m us ws)

pub outcome_units : (m : Board) (us : List Unit) (ws : List Written) → map unit_of (outcome m (ordered us ws)) ≡ us
outcome_units m us ws = outcome_same m (ordered us ws) (λ u o. u) ∙ fresh_units m us ws

-- a unit of the outcome is one of the game, with the order written for it as played
pub outcome_mem : (m : Board) (us : List Unit) (ws : List Written) (x : Resolution) → Memᴰ x (outcome m (ordered us ws)) → Memᴰ x.unit us × (x.order ≡ as_played m x.unit (ordered_one ws x.unit).order)
outcome_mem m us ws x i =
    let a = subst (λ os. Memᴰ (label x) os) (outcome_same m (ordered us ws) (λ u o. record { unit = u; order = o })) (Memᴰ.map label i) in
    let b = Memᴰ.of_map label (fresh m (ordered us ws)) a in
    let c = Memᴰ.of_map (fresh_one m) (ordered us ws) b.1 in
    let d = Memᴰ.of_map (ordered_one ws) us c.1 in
    let e : label (fresh_one m (ordered_one ws d.0)) ≡ label x = ap (λ o. label (fresh_one m o)) d.2 ∙ (ap label c.2 ∙ b.2) in
    (Memᴰ.cast (sym (ap (λ o. o.unit) e)) d.1, sym (ap (λ o. o.order) e) ∙ ap (λ u. as_played m u (ordered_one ws u).order) (ap (λ o. o.unit) e))

-- ---- where a unit may go
linked_good : (m : Board) (fleet : Bool) (a b : ℕ) (es : List Edge) → all (good_edge m fleet) es ≡ true → linked a b es ≡ true → can_stand m fleet b ≡ true
linked_good m fleet a b es g l = elim (or_cases (eqb a e.one && eqb b e.two) (eqb b e.one && eqb a e.two) q.2) [ inl s ↦ ap (can_stand m fleet) (eqb-true _ _ (and_parts (eqb a e.one) (eqb b e.two) s).1) ∙ two | inr s ↦ ap (can_stand m fleet) (eqb-true _ _ (and_parts (eqb b e.one) (eqb a e.two) s).0) ∙ one ]
  where
    q : (x : Edge) × Memᴰ x es × (joins a b x ≡ true)
    q = any_at (joins a b) es l

    e : Edge
    e = q.0

    h : (can_stand m fleet e.one ≡ true) × ((can_stand m fleet e.two && not (eqb e.one e.two)) ≡ true)
    h = and_parts (can_stand m fleet e.one) (can_stand m fleet e.two && not (eqb e.one e.two)) (all-at (good_edge m fleet) es g e q.1)

    one : can_stand m fleet e.one ≡ true
    one = h.0

    two : can_stand m fleet e.two ≡ true
    two = (and_parts (can_stand m fleet e.two) (not (eqb e.one e.two)) h.1).0

pub steps_can : (m : Board) → Good m → (u : Unit) (t : ℕ) → steps m u t ≡ true → can_stand m u.fleet t ≡ true
steps_can m g u t = go u.fleet
  where
    go : (f : Bool) → cond f (linked u.region t m.sail) (linked u.region t m.march) ≡ true → can_stand m f t ≡ true
    go true s = linked_good m true u.region t m.sail g.water s
    go false s = linked_good m false u.region t m.march g.land s

coast_can : (k : Kind) (f : Bool) → is_coast k ≡ true → cond f (sailable k) (marchable k) ≡ true
coast_can Land f e = absurd (false≢true e)
coast_can Coast true e = refl
coast_can Coast false e = refl
coast_can Sea f e = absurd (false≢true e)

crosses_can : (m : Board) (u : Unit) (t : ℕ) → crosses m u t ≡ true → can_stand m u.fleet t ≡ true
crosses_can m u t e =
    let a = and_parts (not u.fleet) (coastal m u.region && (coastal m t && not (eqb t u.region))) e in
    let b = and_parts (coastal m u.region) (coastal m t && not (eqb t u.region)) a.1 in
    let c = and_parts (coastal m t) (not (eqb t u.region)) b.1 in
    let d = and_parts (on_board m t) (is_coast (region_at m t).kind) c.0 in
    and_from (on_board m t) (cond u.fleet (sailable (region_at m t).kind) (marchable (region_at m t).kind)) d.0 (coast_can (region_at m t).kind u.fleet d.1)

legal_can : (m : Board) → Good m → (u : Unit) (o : Order) → legal m u o ≡ true → is_move o ≡ true → can_stand m u.fleet (aim o) ≡ true
legal_can m g u Hold l e = absurd (false≢true e)
legal_can m g u (Move t true) l e = crosses_can m u t l
legal_can m g u (Move t false) l e = steps_can m g u t l
legal_can m g u (SupportHold r) l e = absurd (false≢true e)
legal_can m g u (SupportMove f t) l e = absurd (false≢true e)
legal_can m g u (Convoy f t) l e = absurd (false≢true e)

pub played_can : (m : Board) → Good m → (u : Unit) (o : Order) → is_move (as_played m u o) ≡ true → can_stand m u.fleet (aim (as_played m u o)) ≡ true
played_can m g u o = go (legal m u o) refl
  where
    go : (b : Bool) → legal m u o ≡ b → is_move (cond b o Hold) ≡ true → can_stand m u.fleet (aim (cond b o Hold)) ≡ true
    go true l e = legal_can m g u o l e
    go false l e = absurd (false≢true e)

abbrev pub to : Unit → ℕ → Unit
to u t = record { power = u.power; region = t; fleet = u.fleet }

moved_stands : (m : Board) → Good m → (x : Resolution) (o : Order) → x.order ≡ as_played m x.unit o → stands m x.unit ≡ true → stands m (moved_unit x) ≡ true
moved_stands m g x o e k = go (is_move x.order) refl (is_yes x.value)
  where
    go : (a : Bool) → is_move x.order ≡ a → (b : Bool) → stands m (cond (a && b) (to x.unit (aim x.order)) x.unit) ≡ true
    go true p true = and_from (can_stand m x.unit.fleet (aim x.order)) (ltb x.unit.power powers) (subst (λ d. can_stand m x.unit.fleet (aim d) ≡ true) (sym e) (played_can m g x.unit o (ap is_move (sym e) ∙ p))) (stands-power m x.unit k)
    go true p false = k
    go false p b = k

pub moved_power : (x : Resolution) → (moved_unit x).power ≡ x.unit.power
moved_power x = go (is_move x.order && is_yes x.value)
  where
    go : (b : Bool) → (cond b (to x.unit (aim x.order)) x.unit).power ≡ x.unit.power
    go true = refl
    go false = refl

pub moved_kind : (x : Resolution) → (moved_unit x).fleet ≡ x.unit.fleet
moved_kind x = go (is_move x.order && is_yes x.value)
  where
    go : (b : Bool) → (cond b (to x.unit (aim x.order)) x.unit).fleet ≡ x.unit.fleet
    go true = refl
    go false = refl

pub moved_region : (x : Resolution) → (moved_unit x).region ≡ cond (is_move x.order && is_yes x.value) (aim x.order) x.unit.region
moved_region x = go (is_move x.order && is_yes x.value)
  where
    go : (b : Bool) → (cond b (to x.unit (aim x.order)) x.unit).region ≡ cond b (aim x.order) x.unit.region
    go true = refl
    go false = refl

-- ---- who stands, and who is dislodged
pub map-pick : {A B C : Type 0} (h : B → C) (p : A → Bool) (f : A → B) (xs : List A) → map h (pick p f xs) ≡ pick p (λ x. h (f x)) xs
unfolding gather
map-pick h p f [] = refl
map-pick {A} {B} {C} h p f (x ∷ xs) = go (p x) (map-pick h p f xs)
  where
    go : (b : Bool) → map h (pick p f xs) ≡ pick p (λ y. h (f y)) xs → map h (cond b (f x ∷ pick p f xs) (pick p f xs)) ≡ cond b (h (f x) ∷ pick p (λ y. h (f y)) xs) (pick p (λ y. h (f y)) xs)
    go true e = ap (λ r. h (f x) ∷ r) e
    go false e = e

pub displaced_units : (xs : List Resolution) → units_in (displaced xs) ≡ pick (is_dislodged xs) unit_of xs
displaced_units xs = map-pick {C = Unit} (λ d. d.unit) (is_dislodged xs) (λ x. record { unit = x.unit; from = attacked_from x.unit.region xs }) xs

pub displaced_part : (m : Board) (us : List Unit) (ws : List Written) → Part (units_in (displaced (outcome m (ordered us ws)))) us
displaced_part m us ws =
    subst (λ vs. Part vs us) (sym (displaced_units all)) (subst (λ vs. Part (pick (is_dislodged all) unit_of all) vs) (outcome_units m us ws) (part_pick (is_dislodged all) unit_of all))
  where
    all : List Resolution
    all = outcome m (ordered us ws)

origin_board : (m : Board) (x : Resolution) → on_board m x.unit.region ≡ true → from_board m (origin_of x) ≡ true
origin_board m x e = go (is_convoyed x.order)
  where
    go : (b : Bool) → from_board m (cond b None (Some x.unit.region)) ≡ true
    go true = refl
    go false = e

attacked_board : (m : Board) (r : ℕ) (xs : List Resolution) → ((x : Resolution) → Memᴰ x xs → on_board m x.unit.region ≡ true) → from_board m (attacked_from r xs) ≡ true
unfolding gather
attacked_board m r [] h = refl
attacked_board m r (x ∷ xs) h = go (came r x) (attacked_board m r xs (λ y i. h y (Memᴰ.tail i)))
  where
    go : (b : Bool) → from_board m (attacked_from r xs) ≡ true → from_board m (cond b (origin_of x) (attacked_from r xs)) ≡ true
    go true e = origin_board m x (h x (Memᴰ.head refl))
    go false e = e

next_retreats : (p : Phase) → is_moves p ≡ true → is_retreats (next p) ≡ true
next_retreats SpringMoves e = refl
next_retreats SpringRetreats e = absurd (false≢true e)
next_retreats AutumnMoves e = refl
next_retreats AutumnRetreats e = absurd (false≢true e)
next_retreats Winter e = absurd (false≢true e)

-- the game after moves is lawful, given that no two units stand in one region
pub moves-lawful : (m : Board) (g : Game) (ws : List Written) → good_board m ≡ true → Lawful m g → is_moves g.phase ≡ true → distinct (places (standing (outcome m (ordered g.units ws)))) ≡ true → Lawful m (moves m g ws)
moves-lawful m g ws gb l ph d =
    record {
      apart = d;
      stand = all_of (stands m) (standing xs) (λ u i. (let q = pick_at (λ x. not (is_dislodged xs x)) moved_unit xs u i in let o = outcome_mem m g.units ws q.0 q.1 in ap (stands m) q.3 ∙ moved_stands m (good m gb) q.0 (ordered_one ws q.0.unit).order o.1 ((fine_units l).stand q.0.unit o.0)));
      out_apart = fine_apart (units_in (displaced xs)) out;
      out_stand = fine_stand (units_in (displaced xs)) out;
      out_from = all_of (λ e. from_board m e.from) (displaced xs) (λ e i. (let q = pick_at (is_dislodged xs) (λ x. record { unit = x.unit; from = attacked_from x.unit.region xs }) xs e i in ap (λ y. from_board m y.from) q.3 ∙ attacked_board m q.0.unit.region xs here));
      owned = l.owned;
      on_the_board = all_of (on_board m) (contested m xs) (λ r i. lt-ltb _ _ (those-at (length m.regions) (λ k. any (bounced m xs k) xs) r i).0);
      calm = or_left (is_retreats (next g.phase)) (eqb (length (displaced xs)) 0 && eqb (length (contested m xs)) 0) (next_retreats g.phase ph);
    }
  where
    xs : List Resolution
    xs = outcome m (ordered g.units ws)

    out : Fine m (units_in (displaced xs))
    out = fine_part (displaced_part m g.units ws) (fine_units l)

    here : (x : Resolution) → Memᴰ x xs → on_board m x.unit.region ≡ true
    here x i = can_on_board m x.unit.fleet x.unit.region (stands_can m x.unit ((fine_units l).stand x.unit (outcome_mem m g.units ws x i).0))
