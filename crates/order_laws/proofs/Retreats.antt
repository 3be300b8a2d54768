-- Units, those dislodged and texts in another order: the units after retreats and their centres are the same.
use Rattle.std.proofs.Common.{◌≡◌, ℕ, ◌+◌, Bool, true, false, cond, not, ◌&&◌, eqb, ◌⊎◌, List, [], ◌∷◌, Some, None, Option, sym, refl, ap, ◌∙◌, inl, inr, arith}
use mathlib.Core.List.Memᴰ
use mathlib.Core.List.{Memᴰ}
use Rattle.std.proofs.lemmas.Bool.{true≢false, eqb-true, eq-eqb}
use Rattle.values.specs.Fold.{number, is_in, distinct}
use Rattle.values.specs.Shuffle.{Shuffled}
use Rattle.values.proofs.Shuffled.{any_shuffle, number_shuffle, each_both, append_both, first_shuffle, key_unique, one_passes, mem_each, any_member}
use Rattle.board.specs.Board.{Board}
use Rattle.board.specs.declared.region.Region.{Region}
use Rattle.board.specs.declared.order.Order.{Order}
use Rattle.board.specs.declared.order.Order.TheVariants.{Hold, Move, SupportHold, SupportMove, Convoy}
use Rattle.board.specs.declared.unit.Unit.{Unit}
use Rattle.board.specs.Legal.{steps}
use Rattle.game.specs.declared.phase.Dislodged.{Dislodged}
use Rattle.game.specs.declared.text.Written.{Written}
use Rattle.game.specs.Game.{Game}
use Rattle.game.specs.Texts.{text_for, order_in}
use Rattle.game.specs.Retreats.{occupied, is_just, may_retreat, retreat_by, retreat_of, retreats_to, arrival, retreated, units_after_retreats}
use Rattle.game.specs.Owners.{holder, owners_from}
use Rattle.game.specs.Lawful.{places}
use Rattle.order_laws.specs.Edges.{SameBoard}
use Rattle.order_laws.specs.Turns.{AlikeGames, unit_region}
use Rattle.order_laws.proofs.Deciding.{steps_same}
use Rattle.order_laws.proofs.AfterMoves.{text_same}

module _ (m n : Board) (b : SameBoard m n) (g h : Game) (a : AlikeGames g h) {ws vs : List Written} (w : Shuffled Written ws vs) where
  may_same : (d : Dislodged) (t : ℕ) → may_retreat m g d t ≡ may_retreat n h d t
  may_same d t = λ i. steps_same m n b d.unit t i && (not (any_shuffle (λ u. eqb t u.region) a.units i) && (not (a.barred t i) && not (is_just t d.from)))

  retreat_by_same : (d : Dislodged) (o : Order) → retreat_by m g d o ≡ retreat_by n h d o
  retreat_by_same d Hold = refl
  retreat_by_same d (Move to convoyed) = λ i. cond (not convoyed && may_same d to i) (Some to) None
  retreat_by_same d (SupportHold at) = refl
  retreat_by_same d (SupportMove from to) = refl
  retreat_by_same d (Convoy from to) = refl

  retreat_of_same : (d : Dislodged) → retreat_of m g ws d ≡ retreat_of n h vs d
  retreat_of_same d = retreat_by_same d (order_in (text_for d.unit.power d.unit.region ws)) ∙ ap (λ t. retreat_by n h d (order_in t)) (text_same d.unit.power d.unit.region w)

  retreats_to_same : (t : ℕ) → retreats_to m g ws t ≡ retreats_to n h vs t
  retreats_to_same t = (λ i. number (λ d. is_just t (retreat_of_same d i)) g.dislodged) ∙ number_shuffle (λ d. is_just t (retreat_of n h vs d)) a.dislodged

  arrival_same : (u : Unit) (o : Option ℕ) → arrival m g ws u o ≡ arrival n h vs u o
  arrival_same u None = refl
  arrival_same u (Some t) = λ i. cond (eqb (retreats_to_same t i) 1) (record { power = u.power; region = t; fleet = u.fleet } ∷ []) []

  pub retreats_same : Shuffled Unit (units_after_retreats m g ws) (units_after_retreats n h vs)
  retreats_same =
      append_both a.units (each_both (λ d. arrival m g ws d.unit (retreat_of m g ws d)) (λ d. arrival n h vs d.unit (retreat_of n h vs d))
      (λ d. arrival_same d.unit (retreat_of m g ws d) ∙ ap (arrival n h vs d.unit) (retreat_of_same d)) a.dislodged)

-- ---- after retreats no region has units of two powers
-- a retreat that arrived: whose it was, and where it ended
record Arrived (m : Board) (g : Game) (ws : List Written) (u : Unit) : Type 0 where
  who : Dislodged
  member : Memᴰ who g.dislodged
  power : u.power ≡ who.unit.power
  goes : is_just u.region (retreat_of m g ws who) ≡ true
  alone : retreats_to m g ws u.region ≡ 1

module _ (m : Board) (g : Game) (ws : List Written) where
  arrived_by : (u : Unit) (d : Dislodged) (o : Option ℕ) → Memᴰ u (arrival m g ws d.unit o) → (u.power ≡ d.unit.power) × (is_just u.region o ≡ true) × (retreats_to m g ws u.region ≡ 1)
  arrived_by u d None i = elim i [ ]
  arrived_by u d (Some t) i = go (eqb (retreats_to m g ws t) 1) refl i
    where
      go : (c : Bool) → eqb (retreats_to m g ws t) 1 ≡ c → Memᴰ u (cond c (record { power = d.unit.power; region = t; fleet = d.unit.fleet } ∷ []) []) → (u.power ≡ d.unit.power) × (eqb u.region t ≡ true) × (retreats_to m g ws u.region ≡ 1)
      go true e j = elim (Memᴰ.cases_cons j) [ inl q ↦ (ap (λ v. v.power) q, eq-eqb _ _ (ap (λ v. v.region) q), ap (λ v. retreats_to m g ws v.region) q ∙ eqb-true _ _ e) | inr k ↦ elim k [ ] ]
      go false e j = elim j [ ]

  arrived : (u : Unit) → Memᴰ u (retreated m g ws) → Arrived m g ws u
  arrived u i =
      let k = mem_each (λ d. arrival m g ws d.unit (retreat_of m g ws d)) g.dislodged u i in
      let q = arrived_by u k.giver (retreat_of m g ws k.giver) k.gift in
      record { who = k.giver; member = k.member; power = q.0; goes = q.1; alone = q.2 }

  free_by : (d : Dislodged) (o : Order) (t : ℕ) → is_just t (retreat_by m g d o) ≡ true → occupied t g.units ≡ false
  free_by d Hold t e = absurd (true≢false (sym e))
  free_by d (Move to convoyed) t e = go (not convoyed && may_retreat m g d to) refl e
    where
      third : (p q r s : Bool) → (p && (q && (not r && s))) ≡ true → r ≡ false
      third p q r s f = grind arith

      go : (c : Bool) → (not convoyed && may_retreat m g d to) ≡ c → is_just t (cond c (Some to) None) ≡ true → occupied t g.units ≡ false
      go true p f =
          ap (λ q. occupied q g.units) (eqb-true t to f) ∙
          third (not convoyed) (steps m d.unit to) (occupied to g.units) (not (is_in to g.barred) && not (is_just to d.from)) p
      go false p f = absurd (true≢false (sym f))
  free_by d (SupportHold at) t e = absurd (true≢false (sym e))
  free_by d (SupportMove from to) t e = absurd (true≢false (sym e))
  free_by d (Convoy from to) t e = absurd (true≢false (sym e))

  -- nobody arrives where somebody stands
  not_taken : (u v : Unit) → Memᴰ u g.units → Arrived m g ws v → u.region ≡ v.region → ⊥
  not_taken u v i k e =
      let free = free_by k.who (order_in (text_for k.who.unit.power k.who.unit.region ws)) v.region k.goes in
      true≢false (sym (any_member (λ x. eqb v.region x.region) g.units u i (eq-eqb _ _ (sym e))) ∙ free)

  -- two that arrive in one region are one
  same_arrival : (u v : Unit) → Arrived m g ws u → Arrived m g ws v → u.region ≡ v.region → u.power ≡ v.power
  same_arrival u v k l e =
      let one = one_passes (λ d. is_just u.region (retreat_of m g ws d)) g.dislodged k.alone k.who l.who k.member l.member k.goes
      (ap (λ r. is_just r (retreat_of m g ws l.who)) e ∙ l.goes) in
      k.power ∙ (ap (λ d. d.unit.power) one ∙ sym l.power)

  one_power : distinct (places g.units) ≡ true → (u v : Unit) → Memᴰ u (units_after_retreats m g ws) → Memᴰ v (units_after_retreats m g ws) → u.region ≡ v.region → u.power ≡ v.power
  one_power d u v i j e = go (Memᴰ.append_cases g.units i) (Memᴰ.append_cases g.units j)
    where
      go : Memᴰ u g.units ⊎ Memᴰ u (retreated m g ws) → Memᴰ v g.units ⊎ Memᴰ v (retreated m g ws) → u.power ≡ v.power
      go (inl k) (inl l) = ap (λ x. x.power) (key_unique unit_region g.units d u v k l e)
      go (inl k) (inr l) = absurd (not_taken u v k (arrived v l) e)
      go (inr k) (inl l) = absurd (not_taken v u l (arrived u k) (sym e))
      go (inr k) (inr l) = same_arrival u v (arrived u k) (arrived v l) e

-- ---- owners
pub holder_same : (r : ℕ) (old : Option ℕ) {us vs : List Unit} → Shuffled Unit us vs → ((u v : Unit) → Memᴰ u us → Memᴰ v us → u.region ≡ v.region → u.power ≡ v.power) → holder r us old ≡ holder r vs old
holder_same r old s one = first_shuffle (λ u. eqb r u.region) (λ u. Some u.power) old s (λ u v i j p q. ap Some (one u v i j (sym (eqb-true r u.region p) ∙ eqb-true r v.region q)))

owners_same : (us vs : List Unit) → ((r : ℕ) (old : Option ℕ) → holder r us old ≡ holder r vs old) → (r : ℕ) (qs : List Region) (olds : List (Option ℕ)) → owners_from r qs us olds ≡ owners_from r qs vs olds
unfolding owners_from
owners_same us vs h r [] olds = refl
owners_same us vs h r (q ∷ qs) [] = refl
owners_same us vs h r (q ∷ qs) (old ∷ olds) = λ i. cond q.centre (h r old i) None ∷ owners_same us vs h (r + 1) qs olds i

pub owners_after : (m n : Board) (b : SameBoard m n) (g h : Game) (a : AlikeGames g h) {ws vs : List Written} (w : Shuffled Written ws vs) → distinct (places g.units) ≡ true →
    owners_from 0 m.regions (units_after_retreats m g ws) g.owners ≡ owners_from 0 n.regions (units_after_retreats n h vs) h.owners
owners_after m n b g h a {ws} {vs} w d =
    owners_same _ _ (λ r old. holder_same r old (retreats_same m n b g h a w) (one_power m g ws d)) 0 m.regions g.owners ∙
    (λ i. owners_from 0 (b.regions i) (units_after_retreats n h vs) (a.owners i))
