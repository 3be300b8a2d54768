-- Rounds end with all paths and supports decided, after at most one paradox; so in the outcome everything is decided, and as all the others decide it.
use Rattle.std.proofs.Common.{◌≡◌, ◌+◌, Bool, true, false, cond, ◌&&◌, ◌||◌, List, [], ◌∷◌, map, length, sym, refl, ap, ◌∙◌, subst, arith}
use mathlib.Core.List.{Memᴰ}
use Rattle.std.proofs.lemmas.Bool.{true≢false}
use Rattle.values.specs.Fold.{distinct}
use Rattle.values.specs.declared.tri.Tri.{Tri}
use Rattle.values.specs.declared.tri.Tri.TheVariants.{No, Open, Yes}
use Rattle.values.specs.Tri.{is_open}
use Rattle.board.specs.declared.unit.Unit.{Unit}
use Rattle.board.specs.declared.order.Order.{Order}
use Rattle.board.specs.Board.{Board}
use Rattle.board.specs.Order.{is_move, is_support, is_convoyed}
use Rattle.assignment.specs.declared.resolution.Resolution.{Resolution}
use Rattle.paths.specs.Paths.{path}
use Rattle.strength.specs.Strength.{attack}
use Rattle.strength.specs.Decide.{decides}
use Rattle.deciding.specs.Rounds.{again, round, decided}
use Rattle.deciding.specs.Outcome.{unsettled, paradox, strand, close_one, Ordered, fresh, settled, outcome}
use Rattle.deciding_laws.specs.Assignments.{Apart, played, order_of}
use Rattle.deciding_laws.specs.Consistent.{KeptAshore, OutcomeConsistent}
use Rattle.deciding_laws.proofs.Along.{it, Along}
use Rattle.deciding_laws.proofs.Members.{mem_map, map_fixed, any_false, false_any, along_each, along_same}
use Rattle.deciding_laws.proofs.Places.{spots, who_there}
use Rattle.deciding_laws.proofs.RoundsEnd.{rests, open_rises, fresh_open, strand_open}
use Rattle.deciding_laws.proofs.Forced.{Towards, SameMark}
use Rattle.deciding_laws.proofs.Exact.{Known}
use Rattle.deciding_laws.proofs.SupportsDecided.{decides_move, weak_no, Rest, supports_known}
use Rattle.deciding_laws.proofs.RingsClosed.{close-under, ring_closed}
use Rattle.deciding_laws.proofs.StrandedOnce.{From, from_rounds, from_fresh, Strand, from_strand, from_under, from_towards, least_strand, not_open_known, paths_strand}

pub fixed_at : (m : Board) (zs : List Resolution) → round m zs ≡ zs → (x : Resolution) → Memᴰ x zs → decides m x zs x.order ≡ x.value
fixed_at m zs e x i = ap (λ y. y.value) (map_fixed (again m zs) zs e x i)

settled-path : (a b p : Bool) → (a || (b && p)) ≡ false → b ≡ true → p ≡ false
settled-path a b p e f = grind arith

-- no paradox: the paths are decided
paths_clear : (m : Board) (zs : List Resolution) → paradox m zs ≡ false → (x : Resolution) → Memᴰ x zs → is_move x.order ≡ true → Known (path m x zs)
paths_clear m zs e x i k =
    not_open_known (path m x zs) (settled-path (is_support x.order && is_open x.value) (is_move x.order) (is_open (path m x zs)) (any_false (unsettled m zs) zs e x i) k)

pub closed : {t : Tri} → Known t → is_open t ≡ false
closed Known.no = refl
closed Known.yes = refl

neither : (a b p q : Bool) → (a ≡ true → p ≡ false) → (b ≡ true → q ≡ false) → ((a && p) || (b && q)) ≡ false
neither a b p q f g = grind arith

-- and the other way round
pub clear : (m : Board) (zs : List Resolution) → ((x : Resolution) → Memᴰ x zs → is_support x.order ≡ true → Known x.value) → ((x : Resolution) → Memᴰ x zs → is_move x.order ≡ true → Known (path m x zs)) → paradox m zs ≡ false
clear m zs h w = false_any (unsettled m zs) zs (λ x i. neither (is_support x.order) (is_move x.order) (is_open x.value) (is_open (path m x zs)) (λ k. closed (h x i k)) (λ k. closed (w x i k)))

spots-fresh : (m : Board) (os : List Ordered) → spots (fresh m os) ≡ map (λ o. o.unit.region) os
spots-fresh m [] = refl
spots-fresh m (o ∷ os) = ap (λ r. o.unit.region ∷ r) (spots-fresh m os)

orders-fresh : (m : Board) (os : List Ordered) → map order_of (fresh m os) ≡ map (played m) os
orders-fresh m [] = refl
orders-fresh m (o ∷ os) = ap (λ r. played m o ∷ r) (orders-fresh m os)

-- ---- the rounds, and those after a paradox
module _ (m : Board) (os : List Ordered) where
  unfoldable pub first : List Resolution
  first = decided m (fresh m os)

  unfoldable pub second : List Resolution
  second = decided m (strand m first)

  pub first_from : Along (From SameMark) (fresh m os) first
  unfolding first
  first_from = from_rounds m _ (from_fresh m os)

  pub second_from : Along (From (Strand m first)) (fresh m os) second
  unfolding second
  second_from = from_rounds m _ (from_strand m first first_from)

  pub first_fix : round m first ≡ first
  unfolding first
  first_fix = rests m (open_rises m (fresh m os) (fresh m os) (fresh_open m os))

  pub second_fix : round m second ≡ second
  unfolding second
  second_fix = rests m (open_rises m (strand m first) (strand m first) (strand_open m first))

  second_towards : Along (Towards m second (Strand m first)) first second
  unfolding first
  second_towards = least_strand m (length (fresh m os) + 1) first_fix (from_under first_from) (from_towards m second (fixed_at m second second_fix) second_from)

  -- whatever is settled comes from the fresh orders, and has their marks or those of the paradox rule
  pub settled_from : (P : List Resolution → Type 0) → (paradox m first ≡ false → P first) → P second → P (settled m os)
  unfolding first second
  settled_from P p q = go (paradox m first) refl
    where
      go : (b : Bool) → paradox m first ≡ b → P (cond b second first)
      go true e = q
      go false e = p e

  convoyed_if_adrift : (u : Unit) (o : Order) (d e : Bool) → d ≡ false → Strand m first u o d e → e ≡ true → is_convoyed o ≡ true
  convoyed_if_adrift u o d e f g h = go (is_convoyed o) refl
    where
      go : (b : Bool) → is_convoyed o ≡ b → b ≡ true
      go true k = refl
      go false k =
          let p : path m (it u o Open d) first ≡ Yes = rw k in
          absurd (true≢false (sym h ∙ (g ∙ (ap (λ z. d || (is_move o && is_open z)) p ∙ none d (is_move o) f))))
        where
          none : (d b : Bool) → d ≡ false → (d || (b && false)) ≡ false
          none d b f = grind arith

  pub settled_convoyed : (x : Resolution) → Memᴰ x (settled m os) → x.stranded ≡ true → is_convoyed x.order ≡ true
  settled_convoyed = settled_from (λ zs. (x : Resolution) → Memᴰ x zs → x.stranded ≡ true → is_convoyed x.order ≡ true)
      (λ _. along_each (λ x. x.stranded ≡ true → is_convoyed x.order ≡ true) (λ u o v w d e h k. absurd (true≢false (sym k ∙ (sym h.stranded ∙ h.ashore)))) first_from)
      (along_each (λ x. x.stranded ≡ true → is_convoyed x.order ≡ true) (λ u o v w d e h. convoyed_if_adrift u o d e h.ashore h.stranded) second_from)

  pub settled_same : {A : Type 0} (f : Unit → Order → A) → map (λ x. f x.unit x.order) (settled m os) ≡ map (λ x. f x.unit x.order) (fresh m os)
  settled_same f = settled_from (λ zs. map (λ x. f x.unit x.order) zs ≡ map (λ x. f x.unit x.order) (fresh m os)) (λ _. sym (along_same f first_from)) (sym (along_same f second_from))

  module _ (apart : Apart os) where
    spots-apart : (zs : List Resolution) → spots zs ≡ spots (fresh m os) → distinct (spots zs) ≡ true
    spots-apart zs e = ap distinct (e ∙ spots-fresh m os) ∙ apart

    pub second_rest : Rest m second
    second_rest = record { fixed = fixed_at m second second_fix; paths = paths_strand m second_towards; apart = who_there second (spots-apart second (sym (along_same (λ u _. u.region) second_from))) }

    first_rest : paradox m first ≡ false → Rest m first
    first_rest c = record { fixed = fixed_at m first first_fix; paths = paths_clear m first c; apart = who_there first (spots-apart first (sym (along_same (λ u _. u.region) first_from))) }

    -- there is no second paradox
    pub second_clear : paradox m second ≡ false
    second_clear = clear m second (supports_known m second second_rest) second_rest.paths

    pub settled_rest : Rest m (settled m os)
    settled_rest = settled_from (Rest m) first_rest second_rest

    pub settled-apart : distinct (spots (settled m os)) ≡ true
    settled-apart = spots-apart (settled m os) (settled_same (λ u _. u.region))

-- ---- the outcome
pub outcome_same : {A : Type 0} (m : Board) (os : List Ordered) (f : Unit → Order → A) → map (λ x. f x.unit x.order) (outcome m os) ≡ map (λ x. f x.unit x.order) (fresh m os)
outcome_same m os f = sym (along_same f (close-under (settled m os))) ∙ settled_same m os f

pub outcome-apart : (m : Board) (os : List Ordered) → Apart os → distinct (spots (outcome m os)) ≡ true
outcome-apart m os a = ap distinct (outcome_same m os (λ u _. u.region) ∙ spots-fresh m os) ∙ a

pub outcome_consistent : OutcomeConsistent
unfolding attack
outcome_consistent m os a = record { units = outcome_same m os (λ u o. record { unit = u; order = o }) ∙ orders-fresh m os; known = known; fits = fits; stranded = kept }
  where
    rest : Rest m (settled m os)
    rest = settled_rest m os a

    known : (x : Resolution) → Memᴰ x (outcome m os) → is_open x.value ≡ false
    known x i = let c = mem_map close_one x (settled m os) i in subst (λ y. is_open y.value ≡ false) (sym c.2) (closed (ring_closed m (settled m os) rest c.0 c.1).is)

    fits : (x : Resolution) → Memᴰ x (outcome m os) → decides m x (outcome m os) x.order ≡ x.value
    fits x i = let c = mem_map close_one x (settled m os) i in subst (λ y. decides m y (outcome m os) y.order ≡ y.value) (sym c.2) (ring_closed m (settled m os) rest c.0 c.1).fits

    kept : (x : Resolution) → Memᴰ x (outcome m os) → x.stranded ≡ true → KeptAshore m (outcome m os) x
    kept x i s =
        let c = mem_map close_one x (settled m os) i in
        let w : is_convoyed x.order ≡ true = ap (λ y. is_convoyed y.order) c.2 ∙ settled_convoyed m os c.0 c.1 (ap (λ y. y.stranded) (sym c.2) ∙ s) in
        let p : path m x (outcome m os) ≡ No = rw (w, s) in
        let v = weak_no m x (outcome m os) (rw p) in
        record { over_water = w; failed = sym (fits x i) ∙ (decides_move m x (outcome m os) x.order (convoyed_move x.order w) ∙ v); pathless = p }
      where
        convoyed_move : (o : Order) → is_convoyed o ≡ true → is_move o ≡ true
        convoyed_move o e = grind arith
