-- A lawful game, fact by fact: the test and the record say the same, and how many units, dislodged and owners there can be.
use Rattle.std.proofs.Common.{◌≡◌, ℕ, zero, suc, ◌<◌, ◌≤◌, Bool, true, false, cond, ◌&&◌, ◌||◌, eqb, ltb, leb, List, [], ◌∷◌, ◌++◌, length, get_or, Some, None, Option, refl, ap, subst, inl, inr, arith}
use mathlib.Core.List.Memᴰ
use mathlib.Core.List.{Memᴰ}
use lib.ListN.{length-map}
use Rattle.std.proofs.lemmas.Bool.{false≢true, ltb-true, leb-true, and_parts}
use Rattle.values.specs.Fold.{all, distinct}
use Rattle.board.specs.Board.{Board, on_board, can_stand, stands, sailable, marchable, region_at, nowhere, powers, is_power, good_edge, good_board}
use Rattle.board.specs.declared.region.Region.{Region}
use Rattle.board.specs.declared.unit.Unit.{Unit}
use Rattle.game.specs.Game.{Game, is_retreats}
use Rattle.game.specs.Lawful.{places, units_in, from_board, good_owner, good_owners, Lawful, lawful}
use Rattle.year_laws.specs.Kept.{LawfulTested, Placed, LawfulBounded}
use Rattle.year_laws.proofs.Members.{all-at, all_of}
use Rattle.year_laws.proofs.Sorted.{Part, part_mem, none, sorted_part, sorted_append, Apart, apart_from, apart_to}
use Rattle.year_laws.proofs.Number.{keys_few}

-- ---- the test and the facts
record Eight (a b c d e f g h : Bool) : Type 0 where
  first : a ≡ true
  second : b ≡ true
  third : c ≡ true
  fourth : d ≡ true
  fifth : e ≡ true
  sixth : f ≡ true
  seventh : g ≡ true
  eighth : h ≡ true

eight : (a b c d e f g h : Bool) → (a && (b && (c && (d && (e && (f && (g && h))))))) ≡ true → Eight a b c d e f g h
eight a b c d e f g h t = grind arith

of_eight : (a b c d e f g h : Bool) → Eight a b c d e f g h → (a && (b && (c && (d && (e && (f && (g && h))))))) ≡ true
of_eight a b c d e f g h s = grind arith

pub lawful_facts : (m : Board) (g : Game) → lawful m g ≡ true → Lawful m g
lawful_facts m g t =
    let s = eight (distinct (places g.units)) (all (stands m) g.units) (distinct (places (units_in g.dislodged))) (all (stands m) (units_in g.dislodged)) (all (λ d. from_board m d.from) g.dislodged) (good_owners m.regions g.owners) (all (on_board m) g.barred) (is_retreats g.phase || (eqb (length g.dislodged) 0 && eqb (length g.barred) 0)) t in
    record { apart = s.first; stand = s.second; out_apart = s.third; out_stand = s.fourth; out_from = s.fifth; owned = s.sixth; on_the_board = s.seventh; calm = s.eighth }

pub facts_lawful : (m : Board) (g : Game) → Lawful m g → lawful m g ≡ true
facts_lawful m g l =
    of_eight (distinct (places g.units)) (all (stands m) g.units) (distinct (places (units_in g.dislodged))) (all (stands m) (units_in g.dislodged)) (all (λ d. from_board m d.from) g.dislodged) (good_owners m.regions g.owners) (all (on_board m) g.barred) (is_retreats g.phase || (eqb (length g.dislodged) 0 && eqb (length g.barred) 0))
    (record { first = l.apart; second = l.stand; third = l.out_apart; fourth = l.out_stand; fifth = l.out_from; sixth = l.owned; seventh = l.on_the_board; eighth = l.calm })

pub lawful_tested : LawfulTested
lawful_tested m g = (lawful_facts m g, facts_lawful m g)

-- ---- units that stand apart, each where it can be
abbrev pub region_of : Unit → ℕ
region_of u = u.region

pub record Fine (m : Board) (us : List Unit) : Type 0 where
  pub apart : Apart region_of us
  pub stand : (u : Unit) → Memᴰ u us → stands m u ≡ true

pub fine_from : (m : Board) (us : List Unit) → distinct (places us) ≡ true → all (stands m) us ≡ true → Fine m us
fine_from m us d s = record { apart = apart_from region_of us d; stand = all-at (stands m) us s }

pub fine_apart : {m : Board} (us : List Unit) → Fine m us → distinct (places us) ≡ true
fine_apart us f = apart_to region_of us f.apart

pub fine_stand : {m : Board} (us : List Unit) → Fine m us → all (stands m) us ≡ true
fine_stand {m} us f = all_of (stands m) us f.stand

pub fine_units : {m : Board} {g : Game} → Lawful m g → Fine m g.units
fine_units {m} {g} l = fine_from m g.units l.apart l.stand

pub fine_out : {m : Board} {g : Game} → Lawful m g → Fine m (units_in g.dislodged)
fine_out {m} {g} l = fine_from m (units_in g.dislodged) l.out_apart l.out_stand

pub fine_none : {m : Board} → Fine m []
fine_none = record { apart = none; stand = λ u i. elim i [ ] }

pub fine_part : {m : Board} {us vs : List Unit} → Part us vs → Fine m vs → Fine m us
fine_part p f = record { apart = sorted_part p f.apart; stand = λ u i. f.stand u (part_mem p u i) }

pub fine_append : {m : Board} (us vs : List Unit) → Fine m us → Fine m vs → ((u v : Unit) → Memᴰ u us → Memᴰ v vs → u.region ≡ v.region → ⊥) → Fine m (us ++ vs)
fine_append us vs f g h = record { apart = sorted_append f.apart g.apart h; stand = λ u i. elim (Memᴰ.append_cases us i) [ inl j ↦ f.stand u j | inr j ↦ g.stand u j ] }

-- ---- bounds
pub stands_can : (m : Board) (u : Unit) → stands m u ≡ true → can_stand m u.fleet u.region ≡ true
stands_can m u e = (and_parts (can_stand m u.fleet u.region) (ltb u.power powers) e).0

pub stands-power : (m : Board) (u : Unit) → stands m u ≡ true → ltb u.power powers ≡ true
stands-power m u e = (and_parts (can_stand m u.fleet u.region) (ltb u.power powers) e).1

pub can_on_board : (m : Board) (fleet : Bool) (r : ℕ) → can_stand m fleet r ≡ true → on_board m r ≡ true
can_on_board m fleet r e = (and_parts (on_board m r) (cond fleet (sailable (region_at m r).kind) (marchable (region_at m r).kind)) e).0

pub stands_placed : (m : Board) (u : Unit) → stands m u ≡ true → Placed m u
stands_placed m u e = record { region = ltb-true _ _ (can_on_board m u.fleet u.region (stands_can m u e)); power = ltb-true _ _ (stands-power m u e) }

pub fine_few : {m : Board} {us : List Unit} → Fine m us → length us ≤ length m.regions
fine_few {m} {us} f = keys_few region_of us (length m.regions) f.apart (λ u i. (stands_placed m u (f.stand u i)).region)

owners_length : (qs : List Region) (os : List (Option ℕ)) → good_owners qs os ≡ true → length os ≡ length qs
unfolding good_owners
owners_length [] [] e = refl
owners_length [] (o ∷ os) e = absurd (false≢true e)
owners_length (q ∷ qs) [] e = absurd (false≢true e)
owners_length (q ∷ qs) (o ∷ os) e = ap suc (owners_length qs os (and_parts (good_owner q o) (good_owners qs os) e).1)

owner_at : (qs : List Region) (os : List (Option ℕ)) → good_owners qs os ≡ true → (r p : ℕ) → get_or os r None ≡ Some p → good_owner (get_or qs r nowhere) (Some p) ≡ true
unfolding good_owners
owner_at qs [] e r p f = let z : ◌≡◌ {A = ℕ} 0 1 = cc in absurd (omega arith)
owner_at [] (o ∷ os) e r p f = absurd (false≢true e)
owner_at (q ∷ qs) (o ∷ os) e zero p f = subst (λ x. good_owner q x ≡ true) f (and_parts (good_owner q o) (good_owners qs os) e).0
owner_at (q ∷ qs) (o ∷ os) e (suc r) p f = owner_at qs os (and_parts (good_owner q o) (good_owners qs os) e).1 r p f

pub lawful_bounded : LawfulBounded
lawful_bounded m g l =
    record {
      units = fine_few (fine_units l);
      dislodged = omega (arith, fine_few (fine_out l), length-map g.dislodged (λ d. d.unit));
      placed = λ u i. stands_placed m u ((fine_units l).stand u i);
      out_placed = λ d i. stands_placed m d.unit ((fine_out l).stand d.unit (Memᴰ.map (λ e. e.unit) i));
      from = λ d r i e. ltb-true _ _ (subst (λ o. from_board m o ≡ true) e (all-at (λ x. from_board m x.from) g.dislodged l.out_from d i));
      barred = λ r i. ltb-true _ _ (all-at (on_board m) g.barred l.on_the_board r i);
      owners = owners_length m.regions g.owners l.owned;
      owner = λ r p e. (let q = and_parts (region_at m r).centre (ltb p powers) (owner_at m.regions g.owners l.owned r p e) in (ltb-true _ _ q.1, q.0));
    }

-- ---- a good board
pub record Good (m : Board) : Type 0 where
  pub small : length m.regions ≤ 128
  pub homes : all (λ r. is_power r.home) m.regions ≡ true
  pub land : all (good_edge m false) m.march ≡ true
  pub water : all (good_edge m true) m.sail ≡ true

pub good : (m : Board) → good_board m ≡ true → Good m
good m e =
    let a = and_parts (leb (length m.regions) 128) (all (λ r. is_power r.home) m.regions && (all (good_edge m false) m.march && all (good_edge m true) m.sail)) e in
    let b = and_parts (all (λ r. is_power r.home) m.regions) (all (good_edge m false) m.march && all (good_edge m true) m.sail) a.1 in
    let c = and_parts (all (good_edge m false) m.march) (all (good_edge m true) m.sail) b.1 in
    record { small = leb-true _ _ a.0; homes = b.0; land = c.0; water = c.1 }

-- ---- what fits into 128 on a good board
pub units_small : (m : Board) (g : Game) → good_board m ≡ true → Lawful m g → length g.units ≤ 128
units_small m g gb l = omega (arith, (good m gb).small, (lawful_bounded m g l).units)

pub dislodged_small : (m : Board) (g : Game) → good_board m ≡ true → Lawful m g → length g.dislodged ≤ 128
dislodged_small m g gb l = omega (arith, (good m gb).small, (lawful_bounded m g l).dislodged)

pub placed_small : (m : Board) (u : Unit) → good_board m ≡ true → Placed m u → u.region < 128
placed_small m u gb p = omega (arith, (good m gb).small, p.region)

pub barred_small : (m : Board) (g : Game) → good_board m ≡ true → Lawful m g → (r : ℕ) → Memᴰ r g.barred → r < 128
barred_small m g gb l r i = omega (arith, (good m gb).small, (lawful_bounded m g l).barred r i)
