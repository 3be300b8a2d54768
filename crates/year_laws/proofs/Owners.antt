-- To whom the centres belong after the autumn's retreats, region by region; and that owners stay good.
use Rattle.std.proofs.Common.{◌≡◌, ℕ, zero, suc, ◌+◌, Bool, true, false, cond, eqb, ltb, ◌⊎◌, List, [], ◌∷◌, length, get_or, Some, None, Option, sym, refl, ap, ◌∙◌, subst, inl, inr, arith}
use mathlib.Core.List.Memᴰ
use mathlib.Core.List.{Memᴰ}
use Rattle.std.proofs.lemmas.Bool.{false≢true, eqb-true, eqb-false, and_parts, and_from}
use Rattle.values.specs.Fold.{gather}
use Rattle.board.specs.Board.{Board, region_at, nowhere, powers, is_power, good_board}
use Rattle.board.specs.declared.region.Region.{Region}
use Rattle.board.specs.declared.unit.Unit.{Unit}
use Rattle.game.specs.declared.phase.Phase.{Phase}
use Rattle.game.specs.declared.phase.Phase.TheVariants.{SpringMoves, SpringRetreats, AutumnMoves, AutumnRetreats, Winter}
use Rattle.game.specs.declared.text.Written.{Written}
use Rattle.game.specs.Game.{Game}
use Rattle.game.specs.Owners.{holder, owners_from}
use Rattle.game.specs.Retreats.{units_after_retreats}
use Rattle.game.specs.Lawful.{good_owner, good_owners, Lawful}
use Rattle.game.specs.Turn.{turn_in}
use Rattle.year_laws.specs.OwnerLaw.{OwnersAfter, AutumnOwners, OwnersStay}
use Rattle.year_laws.proofs.Sorted.{more, Apart}
use Rattle.year_laws.proofs.LawfulFacts.{region_of, lawful_bounded, good}
use Rattle.year_laws.proofs.Retreats.{retreats_fine}

-- ---- whoever holds a region
holder-power : (r : ℕ) (us : List Unit) (old : Option ℕ) → is_power old ≡ true → ((u : Unit) → Memᴰ u us → ltb u.power powers ≡ true) → is_power (holder r us old) ≡ true
unfolding gather
holder-power r [] old e h = e
holder-power r (u ∷ us) old e h = go (eqb r u.region) (holder-power r us old e (λ v i. h v (Memᴰ.tail i)))
  where
    go : (b : Bool) → is_power (holder r us old) ≡ true → is_power (cond b (Some u.power) (holder r us old)) ≡ true
    go true k = h u (Memᴰ.head refl)
    go false k = k

holder_none : (r : ℕ) (us : List Unit) (old : Option ℕ) → ((u : Unit) → Memᴰ u us → u.region ≡ r → ⊥) → holder r us old ≡ old
unfolding gather
holder_none r [] old h = refl
holder_none r (u ∷ us) old h = go (eqb r u.region) refl (holder_none r us old (λ v i. h v (Memᴰ.tail i)))
  where
    go : (b : Bool) → eqb r u.region ≡ b → holder r us old ≡ old → cond b (Some u.power) (holder r us old) ≡ old
    go true e k = absurd (h u (Memᴰ.head refl) (sym (eqb-true _ _ e)))
    go false e k = k

holder_of : (us : List Unit) → Apart region_of us → (old : Option ℕ) (u : Unit) → Memᴰ u us → holder u.region us old ≡ Some u.power
unfolding gather
holder_of [] s old u i = elim i [ ]
holder_of (v ∷ vs) (more h s) old u i = go (eqb u.region v.region) refl (Memᴰ.cases_cons i) (λ j. holder_of vs s old u j)
  where
    go : (b : Bool) → eqb u.region v.region ≡ b → (u ≡ v) ⊎ Memᴰ u vs → (Memᴰ u vs → holder u.region vs old ≡ Some u.power) → cond b (Some v.power) (holder u.region vs old) ≡ Some u.power
    go true e (inl q) k = ap (λ w. Some w.power) (sym q)
    go true e (inr j) k = absurd (h u j (sym (eqb-true _ _ e)))
    go false e (inl q) k = absurd (eqb-false _ _ e (ap (λ w. w.region) q))
    go false e (inr j) k = k j

-- ---- owners stay good
owner_power : (q : Region) (o : Option ℕ) → good_owner q o ≡ true → is_power o ≡ true
owner_power q None e = refl
owner_power q (Some p) e = (and_parts q.centre (ltb p powers) e).1

centre_good : (q : Region) (o : Option ℕ) → q.centre ≡ true → is_power o ≡ true → good_owner q o ≡ true
centre_good q None c e = refl
centre_good q (Some p) c e = and_from q.centre (ltb p powers) c e

pub owners_good : (r : ℕ) (qs : List Region) (us : List Unit) (olds : List (Option ℕ)) → good_owners qs olds ≡ true → ((u : Unit) → Memᴰ u us → ltb u.power powers ≡ true) → good_owners qs (owners_from r qs us olds) ≡ true
unfolding good_owners owners_from
owners_good r [] us olds e h = refl
owners_good r (q ∷ qs) us [] e h = absurd (false≢true e)
owners_good r (q ∷ qs) us (o ∷ os) e h =
    and_from (good_owner q (cond q.centre (holder r us o) None)) (good_owners qs (owners_from (r + 1) qs us os)) (go q.centre refl) (owners_good (r + 1) qs us os p.1 h)
  where
    p : (good_owner q o ≡ true) × (good_owners qs os ≡ true)
    p = and_parts (good_owner q o) (good_owners qs os) e

    go : (c : Bool) → q.centre ≡ c → good_owner q (cond c (holder r us o) None) ≡ true
    go true c = centre_good q (holder r us o) c (holder-power r us o (owner_power q o p.0) h)
    go false c = refl

-- ---- region by region
owners_at : (r : ℕ) (qs : List Region) (us : List Unit) (olds : List (Option ℕ)) → length olds ≡ length qs → (k : ℕ) → get_or (owners_from r qs us olds) k None ≡ cond (get_or qs k nowhere).centre (holder (r + k) us (get_or olds k None)) None
unfolding owners_from
owners_at r [] us olds e k = refl
owners_at r (q ∷ qs) us [] e k = absurd (omega arith)
owners_at r (q ∷ qs) us (o ∷ os) e zero = let z : r + zero ≡ r = omega arith in ap (λ n. cond q.centre (holder n us o) None) (sym z)
owners_at r (q ∷ qs) us (o ∷ os) e (suc k) = let z : r + 1 + k ≡ r + suc k = omega arith in owners_at (r + 1) qs us os (omega arith) k ∙ ap (λ n. cond (get_or qs k nowhere).centre (holder n us (get_or os k None)) None) z

pub owners_after : (m : Board) (g : Game) (ws : List Written) → good_board m ≡ true → Lawful m g → OwnersAfter m g (turn_in AutumnRetreats m g ws)
owners_after m g ws gb l =
    record {
      taken = λ u i c. at u.region ∙ (ap (λ b. cond b (holder u.region us (get_or g.owners u.region None)) None) c ∙ holder_of us (retreats_fine m g ws l (good m gb)).apart (get_or g.owners u.region None) u i);
      kept = λ r c h. at r ∙ (ap (λ b. cond b (holder r us (get_or g.owners r None)) None) c ∙ holder_none r us (get_or g.owners r None) h);
      nobody = λ r c. at r ∙ ap (λ b. cond b (holder r us (get_or g.owners r None)) None) c;
    }
  where
    us : List Unit
    us = units_after_retreats m g ws

    at : (r : ℕ) → get_or (owners_from 0 m.regions us g.owners) r None ≡ cond (region_at m r).centre (holder r us (get_or g.owners r None)) None
    at r = owners_at 0 m.regions us g.owners (lawful_bounded m g l).owners r ∙ (let z : 0 + r ≡ r = omega arith in ap (λ n. cond (region_at m r).centre (holder n us (get_or g.owners r None)) None) z)

pub autumn_owners : AutumnOwners
autumn_owners m g ws gb l e = subst (λ p. OwnersAfter m g (turn_in p m g ws)) (sym e) (owners_after m g ws gb l)

pub owners_stay : OwnersStay
owners_stay m g ws n = go g.phase n
  where
    go : (p : Phase) → (p ≡ AutumnRetreats → ⊥) → (turn_in p m g ws).owners ≡ g.owners
    go SpringMoves n = refl
    go SpringRetreats n = refl
    go AutumnMoves n = refl
    go AutumnRetreats n = absurd (n refl)
    go Winter n = refl
