-- After moves just those stand whom nobody dislodged, and just those wait whom one did. From an outcome in which nothing is open and one enters each region.
use Rattle.std.proofs.Common.{◌≡◌, ℕ, Bool, true, false, cond, not, ◌&&◌, ◌⊎◌, ◌↔◌, List, [], ◌∷◌, map, Some, None, sym, refl, ap, ◌∙◌, subst, inl, inr, arith}
use mathlib.Core.List.Memᴰ
use mathlib.Core.List.{Memᴰ}
use Rattle.std.proofs.lemmas.Bool.{true≢false, false≢true, cases_Bool, and_parts, and_from, not-true, not_from_false}
use Rattle.values.specs.Fold.{gather, distinct}
use Rattle.values.specs.declared.tri.Tri.{Tri}
use Rattle.values.specs.declared.tri.Tri.TheVariants.{Yes}
use Rattle.values.specs.Tri.{not_tri, and_tri, is_yes, is_open}
use Rattle.board.specs.Board.{Board}
use Rattle.board.specs.declared.unit.Unit.{Unit}
use Rattle.board.specs.Order.{goes_to, is_move, is_convoyed, aim}
use Rattle.assignment.specs.declared.resolution.Resolution.{Resolution}
use Rattle.assignment.specs.Assignment.{entered, dislodged}
use Rattle.deciding.specs.Outcome.{outcome}
use Rattle.deciding_laws.proofs.Folds.{or_some, some_or}
use Rattle.deciding_laws.proofs.Consistent.{outcome-apart, outcome_consistent}
use Rattle.deciding_laws.proofs.DislodgedByOne.{outcome_is_consistent}
use Rattle.deciding_laws.proofs.OneEntersEach.{one_enters}
use Rattle.game.specs.declared.phase.Phase.{Phase}
use Rattle.game.specs.declared.phase.Phase.TheVariants.{SpringMoves, SpringRetreats, AutumnMoves, AutumnRetreats, Winter}
use Rattle.game.specs.declared.phase.Dislodged.{Dislodged}
use Rattle.game.specs.declared.text.Written.{Written}
use Rattle.game.specs.Game.{is_moves}
use Rattle.game.specs.Texts.{ordered}
use Rattle.game.specs.AfterMoves.{came, moved_unit, is_dislodged, standing, origin_of, attacked_from, displaced}
use Rattle.game.specs.Lawful.{places}
use Rattle.game.specs.Turn.{turn_in}
use Rattle.year_laws.specs.MoveLaw.{MovedTo, DislodgedBy, StandsAfter, MoveLaw, WaitsAfter, DislodgeLaw}
use Rattle.year_laws.proofs.Members.{pick_at, pick_of}
use Rattle.year_laws.proofs.Sorted.{apart_from, apart_same}
use Rattle.year_laws.proofs.Orders.{goes_move, move_goes, yes_is, move_aim}
use Rattle.year_laws.proofs.Moved.{moved_power, moved_kind, moved_region}
use Rattle.year_laws.proofs.Kept.{ordered-places}

-- ---- a move that succeeded
came_moved : (t : ℕ) (x : Resolution) → came t x ≡ true → MovedTo x t
came_moved t x e =
    let a = and_parts (goes_to t x.order) (is_yes x.value) e in let c = goes_move t x.order a.0 in
    record { convoyed = c.0; goes = c.1; succeeded = yes_is _ a.1 }

moved_came : (t : ℕ) (x : Resolution) → MovedTo x t → came t x ≡ true
moved_came t x m = and_from (goes_to t x.order) (is_yes x.value) (move_goes t x.order m.convoyed m.goes) (ap is_yes m.succeeded)

abbrev moving : Resolution → Bool
moving x = is_move x.order && is_yes x.value

moving_to : (x : Resolution) → moving x ≡ true → MovedTo x (aim x.order)
moving_to x e =
    let a = and_parts (is_move x.order) (is_yes x.value) e in let c = move_aim x.order a.0 in
    record { convoyed = c.0; goes = c.1; succeeded = yes_is _ a.1 }

to_moving : (x : Resolution) (t : ℕ) → MovedTo x t → moving x ≡ true
to_moving x t m = and_from (is_move x.order) (is_yes x.value) (ap is_move m.goes) (ap is_yes m.succeeded)

staying : (x : Resolution) → ((t : ℕ) → MovedTo x t → ⊥) → moving x ≡ false
staying x n = elim (cases_Bool (moving x)) [ inl e ↦ absurd (n (aim x.order) (moving_to x e)) | inr e ↦ e ]

not_moving : (x : Resolution) → moving x ≡ false → (t : ℕ) → MovedTo x t → ⊥
not_moving x e t m = true≢false (sym (to_moving x t m) ∙ e)

-- ---- dislodged, by whom
out_parts : (b : Bool) (v e : Tri) → cond b (and_tri (not_tri v) e) e ≡ Yes → (e ≡ Yes) × ((b && is_yes v) ≡ false)
out_parts b v e h = grind arith

parts_out : (b : Bool) (v e : Tri) → is_open v ≡ false → e ≡ Yes → (b && is_yes v) ≡ false → cond b (and_tri (not_tri v) e) e ≡ Yes
parts_out b v e k h n = grind arith

out_by : (xs : List Resolution) (x : Resolution) → dislodged x xs ≡ Yes → (y : Resolution) × Memᴰ y xs × DislodgedBy x y
out_by xs x e =
    let a = out_parts (is_move x.order) x.value (entered x.unit.region xs) e in
    let q = or_some (λ y. goes_to x.unit.region y.order) (λ y. y.value) xs a.0 in
    (q.0, q.1, record { enters = came_moved x.unit.region q.0 (and_from (goes_to x.unit.region q.0.order) (is_yes q.0.value) q.2 (ap is_yes q.3)); stays = not_moving x a.1 })

by_out : (xs : List Resolution) (x y : Resolution) → is_open x.value ≡ false → Memᴰ y xs → DislodgedBy x y → dislodged x xs ≡ Yes
by_out xs x y k i d =
    parts_out (is_move x.order) x.value (entered x.unit.region xs) k
    (some_or (λ z. goes_to x.unit.region z.order) (λ z. z.value) xs y i (move_goes x.unit.region y.order d.enters.convoyed d.enters.goes) d.enters.succeeded)
    (staying x d.stays)

-- the attack comes from whoever entered, if only one did
attacked_is : (r : ℕ) (xs : List Resolution) (y : Resolution) → Memᴰ y xs → came r y ≡ true → ((z : Resolution) → Memᴰ z xs → came r z ≡ true → z ≡ y) → attacked_from r xs ≡ origin_of y
unfolding gather
attacked_is r [] y i e h = elim i [ ]
attacked_is r (z ∷ zs) y i e h = go (came r z) refl (Memᴰ.cases_cons i) (λ j. attacked_is r zs y j e (λ w k. h w (Memᴰ.tail k)))
  where
    go : (b : Bool) → came r z ≡ b → (y ≡ z) ⊎ Memᴰ y zs → (Memᴰ y zs → attacked_from r zs ≡ origin_of y) → cond b (origin_of z) (attacked_from r zs) ≡ origin_of y
    go true q s k = ap origin_of (h z (Memᴰ.head refl) q)
    go false q (inl a) k = absurd (true≢false (sym e ∙ (ap (came r) a ∙ q)))
    go false q (inr j) k = k j

origin_is : (x : Resolution) (t : ℕ) (m : MovedTo x t) → origin_of x ≡ cond m.convoyed None (Some x.unit.region)
origin_is x t m = ap (λ o. cond (is_convoyed o) None (Some x.unit.region)) m.goes

-- ---- an outcome
module _ (m : Board) (us : List Unit) (ws : List Written) (d : distinct (places us) ≡ true) where
  ordered-apart : distinct (map (λ o. o.unit.region) (ordered us ws)) ≡ true
  ordered-apart = ap distinct (ordered-places us ws) ∙ d

  known : (x : Resolution) → Memᴰ x (outcome m (ordered us ws)) → is_open x.value ≡ false
  known = (outcome_consistent m (ordered us ws) ordered-apart).known

  sole : (r : ℕ) (y z : Resolution) → Memᴰ y (outcome m (ordered us ws)) → Memᴰ z (outcome m (ordered us ws)) → came r y ≡ true → came r z ≡ true → z ≡ y
  sole r y z i j e f = apart_same (λ x. x.unit.region) (apart_from (λ x. x.unit.region) (outcome m (ordered us ws)) (outcome-apart m (ordered us ws) ordered-apart)) z y j i (one_enters m (outcome m (ordered us ws)) (outcome_is_consistent m (ordered us ws) ordered-apart) (outcome-apart m (ordered us ws) ordered-apart) r z y j f i e)

  pub stands_after : (u : Unit) → Memᴰ u (standing (outcome m (ordered us ws))) → StandsAfter (outcome m (ordered us ws)) u
  stands_after u i =
      record {
        was = x;
        one_of = q.1;
        safe = λ y j b. true≢false (sym (ap is_yes (by_out (outcome m (ordered us ws)) x y (known x q.1) j b)) ∙ not-true _ q.2);
        power = ap (λ v. v.power) q.3 ∙ moved_power x;
        kind = ap (λ v. v.fleet) q.3 ∙ moved_kind x;
        place = go (moving x) refl (ap (λ v. v.region) q.3 ∙ moved_region x);
      }
    where
      q : (y : Resolution) × Memᴰ y (outcome m (ordered us ws)) × (not (is_dislodged (outcome m (ordered us ws)) y) ≡ true) × (u ≡ moved_unit y)
      q = pick_at (λ y. not (is_dislodged (outcome m (ordered us ws)) y)) moved_unit (outcome m (ordered us ws)) u i

      x : Resolution
      x = q.0

      go : (b : Bool) → moving x ≡ b → u.region ≡ cond b (aim x.order) x.unit.region → MovedTo x u.region ⊎ (((t : ℕ) → MovedTo x t → ⊥) × (u.region ≡ x.unit.region))
      go true e r = inl (subst (λ t. MovedTo x t) (sym r) (moving_to x e))
      go false e r = inr (not_moving x e, r)

  pub after-stands : (u : Unit) → StandsAfter (outcome m (ordered us ws)) u → Memᴰ u (standing (outcome m (ordered us ws)))
  after-stands u s = Memᴰ.cast same (pick_of (λ y. not (is_dislodged (outcome m (ordered us ws)) y)) moved_unit (outcome m (ordered us ws)) x s.one_of (not_from_false _ safe))
    where
      x : Resolution
      x = s.was

      safe : is_dislodged (outcome m (ordered us ws)) x ≡ false
      safe = elim (cases_Bool (is_dislodged (outcome m (ordered us ws)) x)) [ inl e ↦ (let q = out_by (outcome m (ordered us ws)) x (yes_is _ e) in absurd (s.safe q.0 q.1 q.2)) | inr e ↦ e ]

      region : u.region ≡ (moved_unit x).region
      region = elim s.place [ inl t ↦ sym (moved_region x ∙ (ap (λ b. cond b (aim x.order) x.unit.region) (to_moving x u.region t) ∙ ap aim t.goes)) | inr n ↦ n.1 ∙ sym (moved_region x ∙ ap (λ b. cond b (aim x.order) x.unit.region) (staying x n.0)) ]

      same : u ≡ moved_unit x
      same = λ i. record { power = (s.power ∙ sym (moved_power x)) i; region = region i; fleet = (s.kind ∙ sym (moved_kind x)) i }

  abbrev waiting : Resolution → Dislodged
  waiting x = record { unit = x.unit; from = attacked_from x.unit.region (outcome m (ordered us ws)) }

  from_is : (x y : Resolution) → Memᴰ y (outcome m (ordered us ws)) → (b : DislodgedBy x y) → attacked_from x.unit.region (outcome m (ordered us ws)) ≡ cond b.enters.convoyed None (Some y.unit.region)
  from_is x y i b = attacked_is x.unit.region (outcome m (ordered us ws)) y i (moved_came x.unit.region y b.enters) (λ z j e. sole x.unit.region y z i j (moved_came x.unit.region y b.enters) e) ∙ origin_is y x.unit.region b.enters

  pub waits_after : (e : Dislodged) → Memᴰ e (displaced (outcome m (ordered us ws))) → WaitsAfter (outcome m (ordered us ws)) e
  waits_after e i =
      let q = pick_at (is_dislodged (outcome m (ordered us ws))) waiting (outcome m (ordered us ws)) e i in
      let b = out_by (outcome m (ordered us ws)) q.0 (yes_is _ q.2) in
      record { was = q.0; one_of = q.1; unit = ap (λ w. w.unit) q.3; by = b.0; by_one_of = b.1; dislodged = b.2; from = ap (λ w. w.from) q.3 ∙ from_is q.0 b.0 b.1 b.2 }

  pub after_waits : (e : Dislodged) → WaitsAfter (outcome m (ordered us ws)) e → Memᴰ e (displaced (outcome m (ordered us ws)))
  after_waits e w =
      Memᴰ.cast same (pick_of (is_dislodged (outcome m (ordered us ws))) waiting (outcome m (ordered us ws)) w.was w.one_of (ap is_yes (by_out (outcome m (ordered us ws)) w.was w.by (known w.was w.one_of) w.by_one_of w.dislodged)))
    where
      same : e ≡ waiting w.was
      same = λ i. record { unit = w.unit i; from = (w.from ∙ sym (from_is w.was w.by w.by_one_of w.dislodged)) i }

pub move_law : MoveLaw
move_law m g ws l ph u = go g.phase ph
  where
    both : Memᴰ u (standing (outcome m (ordered g.units ws))) ↔ StandsAfter (outcome m (ordered g.units ws)) u
    both = (stands_after m g.units ws l.apart u, after-stands m g.units ws l.apart u)

    go : (p : Phase) → is_moves p ≡ true → Memᴰ u (turn_in p m g ws).units ↔ StandsAfter (outcome m (ordered g.units ws)) u
    go SpringMoves e = both
    go SpringRetreats e = absurd (false≢true e)
    go AutumnMoves e = both
    go AutumnRetreats e = absurd (false≢true e)
    go Winter e = absurd (false≢true e)

pub dislodge_law : DislodgeLaw
dislodge_law m g ws l ph d = go g.phase ph
  where
    both : Memᴰ d (displaced (outcome m (ordered g.units ws))) ↔ WaitsAfter (outcome m (ordered g.units ws)) d
    both = (waits_after m g.units ws l.apart d, after_waits m g.units ws l.apart d)

    go : (p : Phase) → is_moves p ≡ true → Memᴰ d (turn_in p m g ws).dislodged ↔ WaitsAfter (outcome m (ordered g.units ws)) d
    go SpringMoves e = both
    go SpringRetreats e = absurd (false≢true e)
    go AutumnMoves e = both
    go AutumnRetreats e = absurd (false≢true e)
    go Winter e = absurd (false≢true e)
