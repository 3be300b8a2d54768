-- Which units' own powers wrote for them, from one pass over the texts; and that the lines told by these marks are the lines of the moves. Assumes nothing.
use Rattle.std.proofs.Common.{◌≡◌, ℕ, ◌+◌, ◌<◌, ◌≤◌, Bool, true, false, cond, ◌&&◌, ◌||◌, eqb, List, [], ◌∷◌, length, get_or, drop, set, replicate, Some, None, Option, sym, refl, ap, ◌∙◌, ⊎_elim, arith}
use Rattle.std.proofs.lemmas.List.{drop_more, drop_all, get_or-set_same, get_or-set_other, get_or-replicate}
use Rattle.std.proofs.lemmas.Bool.{cases_eq, eqb-true, eq-eqb, ne_eqb}
use Rattle.values.specs.Fold.{gather, any, find}
use Rattle.deciding.specs.declared.report.Report.{Report}
use Rattle.game.specs.declared.text.Written.{Written}
use Rattle.game.specs.Texts.{addressed}
use Rattle.tables.specs.ByRegion.{ByRegion}
use Rattle.tables.specs.Stands.{first_at, Tabled}
use Rattle.tables.proofs.Regions.{region_at}
use Rattle.show.specs.Words.{Names}
use Rattle.show.specs.Game.{by_region}
use Rattle.show.specs.Reports.{report_line, move_line, report_at, move_lines}
use Rattle.show.specs.Tables.{written_by, wrote_at, Marked, marked_line}
use Rattle.show.proofs.Lines.{same_lines}

and_true : (b : Bool) → (b && true) ≡ b
and_true true = refl
and_true false = refl

and_false : (b : Bool) → (b && false) ≡ false
and_false true = refl
and_false false = refl

-- a text is for its own region
pub own_region : (p q r : ℕ) → eqb p q ≡ (eqb p q && eqb r r)
own_region p q r = sym (ap (λ t. eqb p q && t) (eq-eqb r r refl) ∙ and_true (eqb p q))

elsewhere : (r : ℕ) (o : Option Report) (w : Written) → (r ≡ w.region → ⊥) → written_by r o w ≡ false
elsewhere r None w apart = refl
elsewhere r (Some x) w apart = ap (λ t. eqb x.unit.power w.power && t) (ne_eqb r w.region apart) ∙ and_false (eqb x.unit.power w.power)

-- what is marked, and what the texts from the ith on mark, is what all of them mark
abbrev pub SoFar : List Bool → List (Option Report) → List Written → ℕ → Type 0
SoFar marked table ws i = (r : ℕ) → r < 256 → (get_or marked r false || wrote_at table r (drop i ws)) ≡ wrote_at table r ws

or_true : (b c : Bool) → (b || (true || c)) ≡ true
or_true true c = refl
or_true false c = refl

pub marked_none : (marked : List Bool) (table : List (Option Report)) (ws : List Written) → marked ≡ replicate 256 false → SoFar marked table ws 0
marked_none marked table ws blank r l = ap (λ b. b || wrote_at table r ws) (ap (λ m. get_or m r false) blank ∙ get_or-replicate 256 r false false l)

module _ (marked : List Bool) (table : List (Option Report)) (ws : List Written) (i : ℕ) (d : Written) (h : i < length ws) (old : SoFar marked table ws i) where
  abbrev pub w : Written
  w = get_or ws i d

  step : (r : ℕ) → r < 256 → (get_or marked r false || (written_by r (get_or table r None) w || wrote_at table r (drop (i + 1) ws))) ≡ wrote_at table r ws
  unfolding any
  step r l = ap (λ vs. get_or marked r false || wrote_at table r vs) (sym (drop_more ws i d h)) ∙ old r l

  pub mark_skip : false ≡ written_by w.region (get_or table w.region None) w → SoFar marked table ws (i + 1)
  mark_skip foreign r l = ap (λ b. get_or marked r false || (b || wrote_at table r (drop (i + 1) ws))) (sym none) ∙ step r l
    where
      none : written_by r (get_or table r None) w ≡ false
      none = ⊎_elim (λ e. ap (λ k. written_by k (get_or table k None) w) e ∙ sym foreign) (λ apart. elsewhere r (get_or table r None) w apart) (cases_eq r w.region)

  pub mark_more : w.region < length marked → true ≡ written_by w.region (get_or table w.region None) w → SoFar (set marked w.region true) table ws (i + 1)
  mark_more room own r l = ⊎_elim here there (cases_eq r w.region)
    where
      rest : Bool
      rest = wrote_at table r (drop (i + 1) ws)

      here : r ≡ w.region → (get_or (set marked w.region true) r false || rest) ≡ wrote_at table r ws
      here e =
          ap (λ b. b || rest) (ap (λ k. get_or (set marked w.region true) k false) e ∙ get_or-set_same marked w.region true false room) ∙
          sym (or_true (get_or marked r false) rest) ∙ ap (λ b. get_or marked r false || (b || rest)) (own ∙ ap (λ k. written_by k (get_or table k None) w) (sym e)) ∙ step r l

      there : (r ≡ w.region → ⊥) → (get_or (set marked w.region true) r false || rest) ≡ wrote_at table r ws
      there apart =
          ap (λ b. b || rest) (get_or-set_other marked w.region r true false apart) ∙
          ap (λ b. get_or marked r false || (b || rest)) (sym (elsewhere r (get_or table r None) w apart)) ∙ step r l

or_false : (b : Bool) → (b || false) ≡ b
or_false true = refl
or_false false = refl

pub marked_all : (marked : List Bool) (table : List (Option Report)) (ws : List Written) (i : ℕ) → length ws ≤ i → SoFar marked table ws i → Marked marked table ws
unfolding ByRegion any
marked_all marked table ws i end old r l = sym (or_false (get_or marked r false)) ∙ ap (λ l. get_or marked r false || wrote_at table r l) (sym (drop_all i ws end)) ∙ old r l

-- what is found passes the test
pub found : {X : Type 0} (test : X → Bool) (xs : List X) (x : X) → find test xs ≡ Some x → test x ≡ true
unfolding gather
found test [] x e = absurd (let z : ◌≡◌ {A = ℕ} 0 1 = cc in omega arith)
found test (y ∷ ys) x e = go (test y) refl e (found test ys x)
  where
    go : (t : Bool) → test y ≡ t → cond t (Some y) (find test ys) ≡ Some x → (find test ys ≡ Some x → test x ≡ true) → test x ≡ true
    go true f g later = let same : y ≡ x = cc in ap test (sym same) ∙ f
    go false f g later = later g

pub marked_line_lem : (names : Names) (marked : List Bool) (table : List (Option Report)) (ws : List Written) (xs : List Report) (r : ℕ) → Tabled (λ x. x.unit) table xs → Marked marked table ws → r < 256 → marked_line names (get_or marked r false) (get_or table r None) ≡ move_line names ws (report_at xs r)
marked_line_lem names marked table ws xs r tabled marks l =
    ap (λ b. marked_line names b (get_or table r None)) (region_at false (wrote_at table) marked ws r marks l) ∙ ap (λ o. marked_line names (any (written_by r o) ws) o) at ∙ go (report_at xs r) refl
  where
    at : get_or table r None ≡ report_at xs r
    at = region_at None (first_at (λ x. x.unit)) table xs r tabled l

    go : (o : Option Report) → report_at xs r ≡ o → marked_line names (any (written_by r o) ws) o ≡ move_line names ws o
    go None e = refl
    go (Some x) e =
        ap (λ k. cond (any (addressed x.unit.power k) ws || x.dislodged) (report_line names x) []) (eqb-true r x.unit.region (found (λ y. eqb r y.unit.region) xs x e))

pub marked_lines : (names : Names) (marked : List Bool) (table : List (Option Report)) (ws : List Written) (xs : List Report) (n : ℕ) → n ≤ 256 → Tabled (λ x. x.unit) table xs → Marked marked table ws → by_region n (λ r. marked_line names (get_or marked r false) (get_or table r None)) ≡ move_lines names n ws xs
marked_lines names marked table ws xs n few tabled marks =
    same_lines (λ r. marked_line names (get_or marked r false) (get_or table r None)) (λ r. move_line names ws (report_at xs r)) n (λ r l. marked_line_lem names marked table ws xs r tabled marks (omega arith))
