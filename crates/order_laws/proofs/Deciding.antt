-- Orders in another order: the same outcome and the same reports, in another order.
use Rattle.std.proofs.Common.{◌≡◌, ℕ, zero, suc, ◌+◌, Bool, true, false, cond, not, ◌&&◌, ◌||◌, eqb, List, [], map, length, sym, refl, subst}
use Rattle.std.proofs.lemmas.Bool.{true≢false, false≢true}
use Rattle.values.specs.Fold.{count_up, distinct}
use Rattle.values.specs.Shuffle.{Shuffled}
use Rattle.values.specs.declared.tri.Tri.TheVariants.{Open}
use Rattle.values.specs.Tri.{is_yes, is_open}
use Rattle.values.proofs.Shuffled.{map_shuffle, map_both, map_keys, length_shuffle, any_both, find_shuffle}
use Rattle.board.specs.Board.{Board, at_sea}
use Rattle.board.specs.declared.region.Region.{Region}
use Rattle.board.specs.declared.order.Order.{Order}
use Rattle.board.specs.declared.order.Order.TheVariants.{Hold, Move, SupportHold, SupportMove, Convoy}
use Rattle.board.specs.declared.unit.Unit.{Unit}
use Rattle.board.specs.Order.{is_move, is_support}
use Rattle.board.specs.Legal.{steps, crosses, apart, legal}
use Rattle.assignment.specs.declared.resolution.Resolution.{Resolution}
use Rattle.deciding.specs.declared.report.Report.{Report}
use Rattle.deciding.specs.Rounds.{again, round, rounds, decided}
use Rattle.deciding.specs.Outcome.{unsettled, paradox, strand_one, strand, settle, in_ring, close_one, Ordered, fresh_one, fresh, settled, outcome, report_one, reports}
use Rattle.order_laws.specs.Edges.{SameBoard}
use Rattle.order_laws.specs.Deciding.{by_region, order_region, resolution_region, report_region, SameReports, AnyOrderOfOrders}
use Rattle.order_laws.proofs.Chains.{dislodged_same, path_same}
use Rattle.order_laws.proofs.Strengths.{decides_same}

-- ---- in the order of regions
pub by_region_same : {A : Type 0} (place : A → ℕ) (n : ℕ) {xs ys : List A} → Shuffled A xs ys → distinct (map place xs) ≡ true → by_region place n xs ≡ by_region place n ys
by_region_same place n s d = λ i. map (λ r. find_shuffle place r s d i) (count_up 0 n)

-- ---- orders as played
-- a board of regions alone, for what looks at no edge
abbrev pub bare : List Region → Board
bare rs = record { regions = rs; march = []; sail = [] }

module _ (m n : Board) (b : SameBoard m n) where
  pub steps_same : (u : Unit) (t : ℕ) → steps m u t ≡ steps n u t
  steps_same u t = λ i. cond u.fleet (b.sail u.region t i) (b.march u.region t i)

  legal_same : (u : Unit) (o : Order) → legal m u o ≡ legal n u o
  legal_same u Hold = refl
  legal_same u (Move to convoyed) = λ i. cond convoyed (crosses (bare (b.regions i)) u to) (steps_same u to i)
  legal_same u (SupportHold at) = steps_same u at
  legal_same u (SupportMove from to) = λ i. steps_same u to i && (not (eqb from u.region) && apart (bare (b.regions i)) from to)
  legal_same u (Convoy from to) = λ i. u.fleet && (at_sea (bare (b.regions i)) u.region && apart (bare (b.regions i)) from to)

  fresh_same : {os ps : List Ordered} → Shuffled Ordered os ps → Shuffled Resolution (fresh m os) (fresh n ps)
  fresh_same s =
      map_both (fresh_one m) (fresh_one n) (λ o i. record { unit = o.unit; order = cond (legal_same o.unit o.order i) o.order Hold; value = Open; stranded = false }) s

-- ---- places stay
places_kept : (f : Resolution → Resolution) → ((x : Resolution) → resolution_region (f x) ≡ resolution_region x) → (xs : List Resolution) →
    distinct (map resolution_region xs) ≡ true → distinct (map resolution_region (map f xs)) ≡ true
places_kept f e xs d = subst (λ q. distinct q ≡ true) (sym (map_keys resolution_region resolution_region f e xs)) d

pub places-rounds : (j : ℕ) (m : Board) (xs : List Resolution) → distinct (map resolution_region xs) ≡ true → distinct (map resolution_region (rounds j m xs)) ≡ true
unfolding rounds
places-rounds zero m xs d = d
places-rounds (suc j) m xs d = places-rounds j m (round m xs) (places_kept (again m xs) (λ x. refl) xs d)

pub places-settle : (m : Board) (xs : List Resolution) → distinct (map resolution_region xs) ≡ true → distinct (map resolution_region (settle m xs)) ≡ true
places-settle m xs d = go (paradox m zs)
  where
    zs : List Resolution
    zs = rounds (length xs + 1) m xs

    e : distinct (map resolution_region zs) ≡ true
    e = places-rounds (length xs + 1) m xs d

    go : (c : Bool) → distinct (map resolution_region (cond c (decided m (strand m zs)) zs)) ≡ true
    go true = places-rounds (length (strand m zs) + 1) m (strand m zs) (places_kept (strand_one m zs) (λ x. refl) zs e)
    go false = e

-- ---- rounds, and the whole
module _ (m n : Board) (b : SameBoard m n) where
  rounds_same : (j : ℕ) {xs ys : List Resolution} → Shuffled Resolution xs ys → distinct (map resolution_region xs) ≡ true → Shuffled Resolution (rounds j m xs) (rounds j n ys)
  unfolding rounds
  rounds_same zero s d = s
  rounds_same (suc j) {xs} {ys} s d =
      rounds_same j (map_both (again m xs) (again n ys) (λ x i. record { unit = x.unit; order = x.order; value = decides_same m n b s d x x.order i; stranded = x.stranded }) s)
      (places_kept (again m xs) (λ x. refl) xs d)

  decided_same : {xs ys : List Resolution} → Shuffled Resolution xs ys → distinct (map resolution_region xs) ≡ true → Shuffled Resolution (decided m xs) (decided n ys)
  decided_same {xs} {ys} s d = subst (λ k. Shuffled Resolution (decided m xs) (rounds (k + 1) n ys)) (length_shuffle s) (rounds_same (length xs + 1) s d)

  paradox_same : {xs ys : List Resolution} → Shuffled Resolution xs ys → paradox m xs ≡ paradox n ys
  paradox_same {xs} {ys} s =
      any_both (unsettled m xs) (unsettled n ys) (λ x i. (is_support x.order && is_open x.value) || (is_move x.order && is_open (path_same m n b s x i))) s

  strand_same : {xs ys : List Resolution} → Shuffled Resolution xs ys → Shuffled Resolution (strand m xs) (strand n ys)
  strand_same {xs} {ys} s =
      map_both (strand_one m xs) (strand_one n ys) (λ x i. record { unit = x.unit; order = x.order; value = Open; stranded = x.stranded || (is_move x.order && is_open (path_same m n b s x i)) }) s

  settle_same : {xs ys : List Resolution} → Shuffled Resolution xs ys → distinct (map resolution_region xs) ≡ true → Shuffled Resolution (settle m xs) (settle n ys)
  settle_same {xs} {ys} s d =
      go (paradox m zs) (paradox n ws) (paradox_same r) (decided_same (strand_same r) (places_kept (strand_one m zs) (λ x. refl) zs (places-rounds (length xs + 1) m xs d)))
    where
      zs : List Resolution
      zs = rounds (length xs + 1) m xs

      ws : List Resolution
      ws = rounds (length ys + 1) n ys

      r : Shuffled Resolution zs ws
      r = decided_same s d

      go : (p q : Bool) → p ≡ q → Shuffled Resolution (decided m (strand m zs)) (decided n (strand n ws)) →
          Shuffled Resolution (cond p (decided m (strand m zs)) zs) (cond q (decided n (strand n ws)) ws)
      go true true e k = k
      go true false e k = absurd (true≢false e)
      go false true e k = absurd (false≢true e)
      go false false e k = r

-- ---- outcome and reports
pub places-settled : (m : Board) (os : List Ordered) → distinct (map order_region os) ≡ true → distinct (map resolution_region (settled m os)) ≡ true
places-settled m os d = places-settle m (fresh m os) (subst (λ q. distinct q ≡ true) (sym (map_keys order_region resolution_region (fresh_one m) (λ o. refl) os)) d)

pub places-outcome : (m : Board) (os : List Ordered) → distinct (map order_region os) ≡ true → distinct (map resolution_region (outcome m os)) ≡ true
places-outcome m os d = places_kept close_one (λ x. refl) (settled m os) (places-settled m os d)

pub places-reports : (m : Board) (os : List Ordered) → distinct (map order_region os) ≡ true → distinct (map report_region (reports m os)) ≡ true
places-reports m os d =
    subst (λ q. distinct q ≡ true) (sym (map_keys resolution_region report_region (report_one (outcome m os)) (λ x. refl) (settled m os))) (places-settled m os d)

module _ (m n : Board) (b : SameBoard m n) {os ps : List Ordered} (s : Shuffled Ordered os ps) (d : distinct (map order_region os) ≡ true) where
  settled_same : Shuffled Resolution (settled m os) (settled n ps)
  settled_same = settle_same m n b (fresh_same m n b s) (subst (λ q. distinct q ≡ true) (sym (map_keys order_region resolution_region (fresh_one m) (λ o. refl) os)) d)

  pub outcome_same : Shuffled Resolution (outcome m os) (outcome n ps)
  outcome_same = map_shuffle close_one settled_same

  pub reports_shuffled : Shuffled Report (reports m os) (reports n ps)
  reports_shuffled =
      map_both (report_one (outcome m os)) (report_one (outcome n ps))
      (λ x i. record { unit = x.unit; order = x.order; success = is_yes (close_one x).value; dislodged = is_yes (dislodged_same (close_one x) outcome_same i); ring = in_ring x; stranded = x.stranded }) settled_same

  pub reports_same : SameReports (reports m os) (reports n ps)
  reports_same =
      let r = reports_shuffled in
      let e = places-reports m os d in
      record { shuffled = r; of_unit = λ q. find_shuffle report_region q r e; region_by_region = λ k. by_region_same report_region k r e }

pub any_order_of_orders : AnyOrderOfOrders
any_order_of_orders m n os ps b d s = (outcome_same m n b s d, reports_same m n b s d)
