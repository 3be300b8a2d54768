-- Retreats by tables: closed regions, goals, how many go to each region, and who lands. Assumes nothing.
use Rattle.std.proofs.Common.{◌≡◌, ℕ, suc, ◌+◌, ◌<◌, ◌≤◌, Bool, true, false, cond, not, ◌&&◌, ◌||◌, eqb, List, [], ◌∷◌, ◌++◌, map, length, get_or, drop, set, replicate, slice_get, Some, None, Option, sym, refl, ap, ◌∙◌, subst, arith, ⊎_elim}
use Rattle.std.proofs.lemmas.List.{drop_more, drop_all, get_or_default, get_or-map, get_or-replicate, get_or-set_same, get_or-set_other, length-map, length-drop}
use Rattle.std.specs.List.{filter_map, zip}
use Rattle.std.specs.Option.{option_to_list}
use Rattle.std.proofs.lemmas.Bool.{ne_eqb, eq-eqb, cases_eq}
use Rattle.values.specs.Fold.{gather, all, each, number, is_in}
use Rattle.geography.specs.declared.region_set.RegionSet.{RegionSet}
use Rattle.geography.specs.RegionSet.{has}
use Rattle.board.specs.Board.{Board, stands}
use Rattle.board.specs.Legal.{steps}
use Rattle.board.specs.declared.unit.Unit.{Unit}
use Rattle.game.specs.declared.phase.Dislodged.{Dislodged}
use Rattle.game.specs.declared.text.Written.{Written}
use Rattle.game.specs.Game.{Game}
use Rattle.game.specs.Lawful.{units_in}
use Rattle.game.specs.Retreats.{occupied, is_just, may_retreat, retreat_of, arrival, retreated}
use Rattle.retreats.specs.Retreating.{Retreating, Closed, goals_in, Counted, landing, landings}
use Rattle.retreats.proofs.Elements.{one_if, added}
use Rattle.tables.proofs.Folds.{no_unit}
use Rattle.tables.proofs.Placement.{stand_at}
use Rattle.tables.proofs.Regions.{region_at, region_same, region_put}
use Rattle.tables.specs.ByRegion.{ByRegion}

-- what reads past the end give
abbrev pub no_out : Dislodged
no_out = record { unit = no_unit; from = None }

pub goal_more : (os : List (Option ℕ)) (i : ℕ) → i < length os → drop i os ≡ get_or os i None ∷ drop (i + 1) os
goal_more os i h = drop_more os i None h

-- ---- where a retreat may go
closed_test : (s occ bar just closed : Bool) → closed ≡ (occ || bar) → (s && (not occ && (not bar && not just))) ≡ (s && (not closed && not just))
closed_test s occ bar just closed e = grind arith

pub may_closed : (m : Board) (g : Game) (d : Dislodged) (t : ℕ) (s : RegionSet) → Closed s g → may_retreat m g d t ≡ (steps m d.unit t && (not (has s t) && not (is_just t d.from)))
unfolding Closed
may_closed m g d t s closed = closed_test (steps m d.unit t) (occupied t g.units) (is_in t g.barred) (is_just t d.from) (has s t) (closed t)

pub closed_from : (g : Game) (us : List Unit) (ds : List Dislodged) (s barred : RegionSet) → Retreating g us ds barred → ((r : ℕ) → has s r ≡ (occupied r us || has barred r)) → Closed s g
unfolding Closed
closed_from g us ds s barred like h r = h r ∙ ap (λ l. occupied r l || has barred r) (sym like.units) ∙ ap (λ b. occupied r g.units || b) (like.barred r)

pub out_power : (m : Board) (ds : List Dislodged) (i : ℕ) → all (stands m) (units_in ds) ≡ true → i < length ds → (get_or ds i no_out).unit.power < 7
out_power m ds i e h = let p = stand_at m (units_in ds) i e (omega (arith, length-map ds (λ d. d.unit))) in let k : get_or (units_in ds) i no_unit ≡ (get_or ds i no_out).unit = get_or-map (λ d. d.unit) ds i no_out no_unit h in omega (arith, p.power, ap (λ u. u.power) k)

-- ---- how many go to each region
goals_le : (t : ℕ) (goals : List (Option ℕ)) → goals_in t goals ≤ length goals
unfolding gather
goals_le t [] = omega arith
goals_le t (o ∷ goals) = go (is_just t o) (goals_le t goals)
  where
    go : (b : Bool) → goals_in t goals ≤ length goals → cond b (suc (goals_in t goals)) (goals_in t goals) ≤ suc (length goals)
    go true h = omega arith
    go false h = omega arith

-- x is what was read of the table at t
pub counted_le : (counts : List ℕ) (goals : List (Option ℕ)) (i t x : ℕ) → Counted counts (drop i goals) → t < 256 → length counts ≡ 256 → x ≡ get_or counts t x → x ≤ length goals
counted_le counts goals i t x h l long read =
    let a = region_at 0 goals_in counts (drop i goals) t h l in
    let b = get_or_default counts t x 0 (omega arith) in
    let n = goals_le t (drop i goals) in
    let d = length-drop i goals in
    omega arith

pub counted_past : (counts : List ℕ) (goals : List (Option ℕ)) (i : ℕ) → i < length goals → get_or goals i None ≡ None → Counted counts (drop (i + 1) goals) → Counted counts (drop i goals)
unfolding gather
counted_past counts goals i h none kept =
    subst (Counted counts) (sym (goal_more goals i h)) (region_same 0 goals_in counts (drop (i + 1) goals) (get_or goals i None) (λ t. ap (λ o. goals_in t (o ∷ drop (i + 1) goals)) none) kept)

pub counted_more : (counts : List ℕ) (goals : List (Option ℕ)) (i t x : ℕ) → i < length goals → t < 256 → length counts ≡ 256 → get_or goals i None ≡ Some t → x ≡ get_or counts t x →
    Counted counts (drop (i + 1) goals) → Counted (set counts t (x + 1)) (drop i goals)
unfolding gather
counted_more counts goals i t x h l long some read kept =
    subst (Counted (set counts t (x + 1))) (sym (goal_more goals i h)) (region_put 0 goals_in counts rest (get_or goals i None) t (x + 1) (omega arith) here there kept)
  where
    rest : List (Option ℕ)
    rest = drop (i + 1) goals

    open_up : (u : ℕ) (b : Bool) → eqb u t ≡ b → goals_in u (get_or goals i None ∷ rest) ≡ cond b (suc (goals_in u rest)) (goals_in u rest)
    open_up u b e = ap (λ o. goals_in u (o ∷ rest)) some ∙ ap (λ s. cond {A = ℕ} s (suc (goals_in u rest)) (goals_in u rest)) e

    here : goals_in t (get_or goals i None ∷ rest) ≡ x + 1
    here =
        let a = open_up t true (eq-eqb t t refl) in
        let k : get_or counts t 0 ≡ x = get_or_default counts t 0 x (omega arith) ∙ sym read in
        let n = region_at 0 goals_in counts rest t kept l in
        omega arith

    there : (u : ℕ) → (u ≡ t → ⊥) → goals_in u (get_or goals i None ∷ rest) ≡ goals_in u rest
    there u apart = open_up u false (ne_eqb u t apart)

-- what the table holds so far, with the goals that are left
abbrev pub Tallied : List ℕ → List (Option ℕ) → List (Option ℕ) → Type 0
Tallied counts left goals = (r : ℕ) → r < 256 → get_or counts r 0 + goals_in r left ≡ goals_in r goals

pub tally-start : (goals : List (Option ℕ)) → Tallied (replicate 256 0) goals goals
tally-start goals r l = let e : get_or (replicate {A = ℕ} 256 0) r 0 ≡ 0 = get_or-replicate 256 r 0 0 l in omega (arith, e)

pub tally_le : (counts : List ℕ) (goals : List (Option ℕ)) (i t : ℕ) → t < 256 → Tallied counts (drop i goals) goals → get_or counts t 0 ≤ length goals
tally_le counts goals i t h so = let a = so t h in let n = goals_le t goals in omega arith

pub tally_past : (counts : List ℕ) (goals : List (Option ℕ)) (i : ℕ) → i < length goals → get_or goals i None ≡ None → Tallied counts (drop i goals) goals → Tallied counts (drop (i + 1) goals) goals
unfolding gather
tally_past counts goals i h none so r l =
    let e : goals_in r (drop i goals) ≡ goals_in r (drop (i + 1) goals) = ap (goals_in r) (goal_more goals i h) ∙ ap (λ o. goals_in r (o ∷ drop (i + 1) goals)) none in
    let k = so r l in
    omega arith

pub tally_more : (counts : List ℕ) (goals : List (Option ℕ)) (i t : ℕ) → i < length goals → t < 256 → length counts ≡ 256 → get_or goals i None ≡ Some t →
    Tallied counts (drop i goals) goals → Tallied (set counts t (get_or counts t 0 + 1)) (drop (i + 1) goals) goals
unfolding gather
tally_more counts goals i t h low long some so r l = ⊎_elim same other (cases_eq r t)
  where
    x : ℕ
    x = get_or counts t 0

    rest : List (Option ℕ)
    rest = drop (i + 1) goals

    open_up : (b : Bool) → eqb r t ≡ b → goals_in r (drop i goals) ≡ cond b (suc (goals_in r rest)) (goals_in r rest)
    open_up b e = ap (goals_in r) (goal_more goals i h) ∙ ap (λ o. goals_in r (o ∷ rest)) some ∙ ap (λ s. cond {A = ℕ} s (suc (goals_in r rest)) (goals_in r rest)) e

    same : r ≡ t → get_or (set counts t (x + 1)) r 0 + goals_in r rest ≡ goals_in r goals
    same e =
        let a : get_or (set counts t (x + 1)) r 0 ≡ x + 1 = ap (λ n. get_or (set counts t (x + 1)) n 0) e ∙ get_or-set_same counts t (x + 1) 0 (omega arith) in
        let b : get_or counts r 0 ≡ x = ap (λ n. get_or counts n 0) e in
        let k = so r l in
        let o : goals_in r (drop i goals) ≡ suc (goals_in r rest) = open_up true (eq-eqb r t e) in
        omega arith

    other : (r ≡ t → ⊥) → get_or (set counts t (x + 1)) r 0 + goals_in r rest ≡ goals_in r goals
    other apart =
        let a : get_or (set counts t (x + 1)) r 0 ≡ get_or counts r 0 = get_or-set_other counts t r (x + 1) 0 apart in
        let k = so r l in
        let o : goals_in r (drop i goals) ≡ goals_in r rest = open_up false (ne_eqb r t apart) in
        omega arith

pub tally-end : (counts : List ℕ) (goals : List (Option ℕ)) (i : ℕ) → length goals ≤ i → Tallied counts (drop i goals) goals → Counted counts goals
unfolding gather ByRegion
tally-end counts goals i h so r l = let e : goals_in r (drop i goals) ≡ 0 = ap (goals_in r) (drop_all i goals h) in let k = so r l in omega arith

-- ---- who lands
number-map : {A B : Type 0} (f : A → B) (test : B → Bool) (xs : List A) → number test (map f xs) ≡ number (λ x. test (f x)) xs
unfolding gather
number-map f test [] = refl
number-map f test (x ∷ xs) = ap (λ n. cond (test (f x)) (suc n) n) (number-map f test xs)

landing_one : (goals : List (Option ℕ)) (u : Unit) (o : Option ℕ) → option_to_list (slice_get (landing goals u o) 0) ≡ landing goals u o
landing_one goals u None = refl
landing_one goals u (Some t) = one_if (eqb (goals_in t goals) 1) (record { power = u.power; region = t; fleet = u.fleet })

pub landings_zip : (goals : List (Option ℕ)) (ds : List Dislodged) (own : List (Option ℕ)) → filter_map (λ p. slice_get (landing goals p.0.unit p.1) 0) (zip ds own) ≡ landings goals ds own
unfolding landings
landings_zip goals [] own = refl
landings_zip goals (d ∷ ds) [] = refl
landings_zip goals (d ∷ ds) (o ∷ own) =
    added (slice_get (landing goals d.unit o) 0) (filter_map (λ p. slice_get (landing goals p.0.unit p.1) 0) (zip ds own)) ∙ (λ i. landing_one goals d.unit o i ++ landings_zip goals ds own i)

module _ (m : Board) (g : Game) (ws : List Written) where
  landing_is : (u : Unit) (o : Option ℕ) → landing (map (retreat_of m g ws) g.dislodged) u o ≡ arrival m g ws u o
  landing_is u None = refl
  landing_is u (Some t) = ap (λ n. cond (eqb n 1) (record { power = u.power; region = t; fleet = u.fleet } ∷ []) []) (number-map (retreat_of m g ws) (is_just t) g.dislodged)

  landings_are : (ds : List Dislodged) → landings (map (retreat_of m g ws) g.dislodged) ds (map (retreat_of m g ws) ds) ≡ each (λ d. arrival m g ws d.unit (retreat_of m g ws d)) ds
  unfolding landings each
  landings_are [] = refl
  landings_are (d ∷ ds) = λ i. landing_is d.unit (retreat_of m g ws d) i ++ landings_are ds i

  pub landed : (us : List Unit) (ds : List Dislodged) (goals : List (Option ℕ)) → g.units ≡ us → g.dislodged ≡ ds → goals ≡ map (retreat_of m g ws) g.dislodged →
      us ++ landings goals ds goals ≡ g.units ++ retreated m g ws
  landed us ds goals eu ed eg = rw (eg, ← eu, ← ed) (ap (λ l. g.units ++ l) (landings_are g.dislodged))
