-- Who came where, from a table filled from the back: who is dislodged, from where, and which regions were contested. Assumes nothing.
use Rattle.std.proofs.Common.{◌≡◌, ℕ, zero, suc, ◌+◌, ◌<◌, Bool, true, false, cond, ◌&&◌, ◌||◌, eqb, ltb, leb, List, [], ◌∷◌, length, get_or, set, Some, None, is_some, MatchOption, Option, sym, refl, ap, ◌∙◌, ⊎_elim, arith}
use Rattle.std.proofs.lemmas.List.{get_or-map}
use Rattle.std.proofs.lemmas.Bool.{cases_Bool, eqb-true, eq-eqb, ne_eqb}
use Rattle.values.specs.Fold.{gather, any, select, count_up, those, is_in}
use Rattle.values.specs.declared.tri.Tri.{Tri}
use Rattle.values.specs.declared.tri.Tri.TheVariants.{No, Open, Yes}
use Rattle.values.specs.Tri.{is_yes, is_no, and_tri, or_tri, not_tri}
use Rattle.board.specs.Board.{Board}
use Rattle.board.specs.declared.order.Order.{Order}
use Rattle.board.specs.Order.{goes_to, is_move, is_convoyed, aim}
use Rattle.assignment.specs.declared.resolution.Resolution.{Resolution}
use Rattle.assignment.specs.Assignment.{nobody, entered}
use Rattle.paths.specs.Paths.{path}
use Rattle.game.specs.AfterMoves.{came, is_dislodged, attacked_from, bounced, contested}
use Rattle.aftermath.specs.declared.after_moves.Arrival.{Arrival}
use Rattle.aftermath.specs.declared.after_moves.Arrival.TheVariants.{From, OverWater}
use Rattle.tables.proofs.Regions.{region_at, region_same, region_put}
use Rattle.aftermath.specs.Arrivals.{arrival_of, arrival_in, origin, Arrived, succeeded, repelled, paths_of}

-- ---- the table of arrivals
came_not : (r : ℕ) (x : Resolution) → succeeded x ≡ false → came r x ≡ false
came_not r x e = grind arith

came_is : (r : ℕ) (x : Resolution) → succeeded x ≡ true → came r x ≡ eqb (aim x.order) r
came_is r x e = grind arith

pub arrived_past : (table : List (Option Arrival)) (x : Resolution) (xs : List Resolution) → succeeded x ≡ false → Arrived table xs → Arrived table (x ∷ xs)
unfolding gather
arrived_past table x xs e kept = region_same None arrival_in table xs x (λ r. ap (λ b. cond b (Some (arrival_of x)) (arrival_in r xs)) (came_not r x e)) kept

-- t is where it went
pub arrived_more : (table : List (Option Arrival)) (x : Resolution) (xs : List Resolution) (t : ℕ) (new : Arrival) → t < length table → t ≡ aim x.order → succeeded x ≡ true → new ≡ arrival_of x → Arrived table xs → Arrived (set table t (Some new)) (x ∷ xs)
unfolding gather
arrived_more table x xs t new l went e is kept = region_put None arrival_in table xs x t (Some new) l (step t true (eq-eqb t t refl) ∙ sym (ap Some is)) (λ r apart. step r false (ne_eqb t r (λ z. apart (sym z)))) kept
  where
    step : (r : ℕ) (b : Bool) → eqb t r ≡ b → arrival_in r (x ∷ xs) ≡ cond b (Some (arrival_of x)) (arrival_in r xs)
    step r b q = ap (λ s. cond s (Some (arrival_of x)) (arrival_in r xs)) (came_is r x e ∙ ap (λ n. eqb n r) (sym went) ∙ q)

-- ---- who is dislodged, and from where
yes_or : (v t : Tri) → is_yes (or_tri v t) ≡ (is_yes v || is_yes t)
yes_or v t = grind arith

entered_is : (r : ℕ) (xs : List Resolution) → is_yes (entered r xs) ≡ is_some (arrival_in r xs)
unfolding gather
entered_is r [] = refl
entered_is r (x ∷ xs) = go (goes_to r x.order) x.value (entered_is r xs)
  where
    rest : Option Arrival
    rest = arrival_in r xs

    go : (b : Bool) (v : Tri) → is_yes (entered r xs) ≡ is_some rest → is_yes (cond b (or_tri v (entered r xs)) (entered r xs)) ≡ is_some (cond (b && is_yes v) (Some (arrival_of x)) rest)
    go true Yes e = refl
    go true Open e = yes_or Open (entered r xs) ∙ e
    go true No e = e
    go false v e = e

-- the region that it came from, if something came
abbrev pub came_from : Option Arrival → Option ℕ
came_from None = None
came_from (Some a) = origin a

pub goes_on : (o : Option Arrival) (r : Option ℕ) → MatchOption o (r ≡ None) (λ a. r ≡ origin a) → r ≡ came_from o
goes_on None r h = h
goes_on (Some a) r h = h

origin_is : (r : ℕ) (xs : List Resolution) → attacked_from r xs ≡ came_from (arrival_in r xs)
unfolding gather
origin_is r [] = refl
origin_is r (x ∷ xs) = go (came r x) (is_convoyed x.order) (origin_is r xs)
  where
    go : (b w : Bool) → attacked_from r xs ≡ came_from (arrival_in r xs) → cond b (cond w None (Some x.unit.region)) (attacked_from r xs) ≡ came_from (cond b (Some (cond w OverWater (From x.unit.region))) (arrival_in r xs))
    go true true e = refl
    go true false e = refl
    go false w e = e

yes_and : (v t : Tri) → is_yes (and_tri (not_tri v) t) ≡ (is_no v && is_yes t)
yes_and v t = grind arith

-- a is what was read of the table
pub dislodged_is : (table : List (Option Arrival)) (xs : List Resolution) (x : Resolution) (a : Option Arrival) → Arrived table xs → x.unit.region < 256 → length table ≡ 256 → a ≡ get_or table x.unit.region None →
    is_dislodged xs x ≡ cond (is_move x.order) (is_no x.value && is_some a) (is_some a)
dislodged_is table xs x a arrived l long e = go (is_move x.order)
  where
    r : ℕ
    r = x.unit.region

    who : is_yes (entered r xs) ≡ is_some a
    who = entered_is r xs ∙ ap is_some (sym (region_at None arrival_in table xs r arrived l) ∙ sym e)

    go : (b : Bool) → is_yes (cond b (and_tri (not_tri x.value) (entered r xs)) (entered r xs)) ≡ cond b (is_no x.value && is_some a) (is_some a)
    go true = yes_and x.value (entered r xs) ∙ ap (λ s. is_no x.value && s) who
    go false = who

pub from_is : (table : List (Option Arrival)) (xs : List Resolution) (r : ℕ) → Arrived table xs → r < 256 → came_from (get_or table r None) ≡ attacked_from r xs
from_is table xs r arrived l = ap came_from (region_at None arrival_in table xs r arrived l) ∙ sym (origin_is r xs)

-- ---- which regions were contested
in_count_up : (q a k : ℕ) (test : ℕ → Bool) → is_in q (select test (count_up a k)) ≡ ((leb a q && ltb q (a + k)) && test q)
unfolding any gather count_up
in_count_up q a zero test = let e : (leb a q && ltb q (a + 0)) ≡ false = grind arith in sym (ap (λ b. b && test q) e)
in_count_up q a (suc k) test = go (test a) refl (in_count_up q (a + 1) k test)
  where
    here : (b : Bool) → test a ≡ b → (rest : Bool) → rest ≡ ((leb (a + 1) q && ltb q (a + 1 + k)) && test q) → (cond b (eqb q a || rest) rest) ≡ ((leb a q && ltb q (a + suc k)) && test q)
    here b e rest r = ⊎_elim same other (cases_Bool (eqb q a))
      where
        same : eqb q a ≡ true → (cond b (eqb q a || rest) rest) ≡ ((leb a q && ltb q (a + suc k)) && test q)
        same z =
            let i : q ≡ a = eqb-true q a z in
            let t : test q ≡ b = ap test i ∙ e in
            grind arith

        other : eqb q a ≡ false → (cond b (eqb q a || rest) rest) ≡ ((leb a q && ltb q (a + suc k)) && test q)
        other z = grind arith

    go : (b : Bool) → test a ≡ b → is_in q (select test (count_up (a + 1) k)) ≡ ((leb (a + 1) q && ltb q (a + 1 + k)) && test q) →
        is_in q (cond b (a ∷ select test (count_up (a + 1) k)) (select test (count_up (a + 1) k))) ≡ ((leb a q && ltb q (a + suc k)) && test q)
    go true e r = here true e _ r
    go false e r = here false e _ r

pub in_those : (q n : ℕ) (test : ℕ → Bool) → is_in q (those n test) ≡ (ltb q n && test q)
in_those q n test = in_count_up q 0 n test ∙ (let e : (leb 0 q && ltb q (0 + n)) ≡ ltb q n = grind arith in ap (λ b. b && test q) e)

repelled_is : (o : Order) (v t : Tri) (q : ℕ) → (goes_to q o && (is_no v && is_yes t)) ≡ ((is_move o && (is_no v && is_yes t)) && eqb (aim o) q)
repelled_is o v t q = grind arith

hit : (now rep rest : Bool) (t q n : ℕ) → (rep && ltb t n) ≡ true → ((eqb q t || now) || (ltb q n && rest)) ≡ (now || (ltb q n && ((rep && eqb t q) || rest)))
hit now rep rest t q n e = grind arith

miss : (now rep rest : Bool) (t q n : ℕ) → (rep && ltb t n) ≡ false → (now || (ltb q n && rest)) ≡ (now || (ltb q n && ((rep && eqb t q) || rest)))
miss now rep rest t q n e = grind arith

module _ (m : Board) (xs : List Resolution) where
  -- what is found so far, and what is still to come, are the contested regions
  abbrev pub Struck : (ℕ → Bool) → List Resolution → Type 0
  Struck now ys = (q : ℕ) → (now q || (ltb q (length m.regions) && any (bounced m xs q) ys)) ≡ (ltb q (length m.regions) && any (bounced m xs q) xs)

  open_up : (x : Resolution) (ys : List Resolution) (q : ℕ) → any (bounced m xs q) (x ∷ ys) ≡ ((repelled x (path m x xs) && eqb (aim x.order) q) || any (bounced m xs q) ys)
  unfolding any
  open_up x ys q = ap (λ b. b || any (bounced m xs q) ys) (repelled_is x.order x.value (path m x xs) q)

  module _ (x : Resolution) (ys : List Resolution) (now : ℕ → Bool) (kept : Struck now (x ∷ ys)) where
    pub struck_miss : (repelled x (path m x xs) && ltb (aim x.order) (length m.regions)) ≡ false → Struck now ys
    struck_miss e q =
        miss (now q) (repelled x (path m x xs)) (any (bounced m xs q) ys) (aim x.order) q (length m.regions) e ∙ ap (λ b. now q || (ltb q (length m.regions) && b)) (sym (open_up x ys q)) ∙ kept q

    pub struck_hit : (t : ℕ) (new : ℕ → Bool) → t ≡ aim x.order → (repelled x (path m x xs) && ltb (aim x.order) (length m.regions)) ≡ true → ((q : ℕ) → new q ≡ (eqb q t || now q)) → Struck new ys
    struck_hit t new went e adds q =
        ap (λ b. b || (ltb q (length m.regions) && any (bounced m xs q) ys)) (adds q ∙ ap (λ n. eqb q n || now q) went) ∙
        hit (now q) (repelled x (path m x xs)) (any (bounced m xs q) ys) (aim x.order) q (length m.regions) e ∙
        ap (λ b. now q || (ltb q (length m.regions) && b)) (sym (open_up x ys q)) ∙ kept q

  pub struck_none : (now : ℕ → Bool) → ((q : ℕ) → now q ≡ false) → Struck now xs
  struck_none now none q = ap (λ b. b || (ltb q (length m.regions) && any (bounced m xs q) xs)) (none q)

  pub struck-all : (now : ℕ → Bool) → Struck now [] → (q : ℕ) → now q ≡ is_in q (contested m xs)
  unfolding any
  struck-all now h q = last (now q) (ltb q (length m.regions)) ∙ h q ∙ sym (in_those q (length m.regions) (λ r. any (bounced m xs r) xs))
    where
      last : (now on : Bool) → now ≡ (now || (on && false))
      last true on = refl
      last false true = refl
      last false false = refl

  -- the path of the move that a turn takes
  pub path-at : (paths : List Tri) (i : ℕ) (x : Resolution) (t : Tri) → paths ≡ paths_of m xs → i < length xs → x ≡ get_or xs i nobody → t ≡ get_or paths i No → t ≡ path m x xs
  path-at paths i x t e h is it = it ∙ ap (λ l. get_or l i No) e ∙ get_or-map (λ x. path m x xs) xs i nobody No h ∙ ap (λ y. path m y xs) (sym is)
