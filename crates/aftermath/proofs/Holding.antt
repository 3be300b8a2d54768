-- Who stands where, from a table filled from the back; owners region by region. Assumes nothing.
use Rattle.std.proofs.Common.{◌≡◌, ℕ, ◌+◌, ◌<◌, ◌≤◌, Bool, true, false, cond, eqb, ◌⊎◌, List, [], ◌∷◌, ◌++◌, length, get_or, drop, Some, None, Option, sym, refl, ap, ◌∙◌, ⊎_elim, inl, inr, append_assoc, min, arith}
use Rattle.std.proofs.lemmas.List.{drop_more, drop_all, get_or_default}
use Rattle.std.proofs.lemmas.Bool.{cases_lt}
use Rattle.std.proofs.lemmas.Slice.Zip.{length-zip, get_or-zip}
use Rattle.std.specs.List.{zip}
use Rattle.values.specs.Fold.{gather}
use Rattle.board.specs.declared.region.Region.{Region}
use Rattle.board.specs.declared.unit.Unit.{Unit}
use Rattle.board.specs.Board.{nowhere}
use Rattle.game.specs.Owners.{holder, owners_from}
use Rattle.std.specs.Option.{option_or, option_map}
use Rattle.tables.specs.Stands.{first_at, Tabled}
use Rattle.tables.proofs.Regions.{region_at}

-- the power of whoever stands in a region, else whose it was
pub holder_is : (r : ℕ) (us : List Unit) (old : Option ℕ) → option_or (option_map (λ u. u.power) (first_at (λ u. u) r us)) old ≡ holder r us old
unfolding gather
holder_is r [] old = refl
holder_is r (u ∷ us) old = go (eqb r u.region) (holder_is r us old)
  where
    go : (b : Bool) → option_or (option_map (λ u. u.power) (first_at (λ u. u) r us)) old ≡ holder r us old → option_or (option_map (λ u. u.power) (cond b (Some u) (first_at (λ u. u) r us))) old ≡ cond b (Some u.power) (holder r us old)
    go true e = refl
    go false e = e

-- ---- owners region by region
pub owners_more : (qs : List Region) (us : List Unit) (olds : List (Option ℕ)) (i : ℕ) → i < length qs → i < length olds →
    owners_from i (drop i qs) us (drop i olds) ≡ cond (get_or qs i nowhere).centre (holder i us (get_or olds i None)) None ∷ owners_from (i + 1) (drop (i + 1) qs) us (drop (i + 1) olds)
unfolding owners_from
owners_more qs us olds i hq ho = λ k. owners_from i (drop_more qs i nowhere hq k) us (drop_more olds i None ho k)

-- one of the two lists is at its end
pub owners_end : (qs : List Region) (us : List Unit) (olds : List (Option ℕ)) (i : ℕ) → (length qs ≤ i) ⊎ (length olds ≤ i) → owners_from i (drop i qs) us (drop i olds) ≡ []
unfolding owners_from
owners_end qs us olds i end = ⊎_elim regions_end olds_end end
  where
    regions_end : length qs ≤ i → owners_from i (drop i qs) us (drop i olds) ≡ []
    regions_end h = ap (λ l. owners_from i l us (drop i olds)) (drop_all i qs h)

    short : (l : List Region) → owners_from i l us [] ≡ []
    short [] = refl
    short (q ∷ l) = refl

    olds_end : length olds ≤ i → owners_from i (drop i qs) us (drop i olds) ≡ []
    olds_end h = ap (λ l. owners_from i (drop i qs) us l) (drop_all i olds h) ∙ short (drop i qs)

-- what a turn over regions, table and old owners reads
pub record Turned (qs : List Region) (table : List (Option Unit)) (olds : List (Option ℕ)) (n : ℕ) (q : Region) (who : Option Unit) (old : Option ℕ) : Type 0 where
  pub on_board : n < length qs
  pub owned : n < length olds
  pub region : q ≡ get_or qs n nowhere
  pub unit : who ≡ get_or table n None
  pub owner : old ≡ get_or olds n None

pub turned : (qs : List Region) (table : List (Option Unit)) (olds : List (Option ℕ)) (n : ℕ) (q : Region) (who : Option Unit) (old : Option ℕ) → n < length (zip (zip qs table) olds) → ((q, who), old) ≡ get_or (zip (zip qs table) olds) n ((q, who), old) →
    Turned qs table olds n q who old
turned qs table olds n q who old h e =
    let all : length (zip (zip qs table) olds) ≡ min (length (zip qs table)) (length olds) = length-zip (zip qs table) olds in
    let two : length (zip qs table) ≡ min (length qs) (length table) = length-zip qs table in
    let hq : n < length qs = omega arith in
    let ht : n < length table = omega arith in
    let ho : n < length olds = omega arith in
    let hz : n < length (zip qs table) = omega arith in
    let outer = e ∙ get_or-zip (zip qs table) olds n ((q, who), old) hz ho in
    let inner = ap (λ p. p.0) outer ∙ get_or-zip qs table n (q, who) hq ht in
    record {
      on_board = hq;
      owned = ho;
      region = ap (λ p. p.0) inner ∙ get_or_default qs n q nowhere hq;
      unit = ap (λ p. p.1) inner ∙ get_or_default table n who None ht;
      owner = ap (λ p. p.1) outer ∙ get_or_default olds n old None ho;
    }

-- after the last turn one of the lists is at its end
pub turned_all : (qs : List Region) (table : List (Option Unit)) (olds : List (Option ℕ)) (n : ℕ) → length qs ≤ 128 → length table ≡ 256 → n ≡ length (zip (zip qs table) olds) → (length qs ≤ n) ⊎ (length olds ≤ n)
turned_all qs table olds n small long e =
    let all : length (zip (zip qs table) olds) ≡ min (length (zip qs table)) (length olds) = length-zip (zip qs table) olds in
    let two : length (zip qs table) ≡ min (length qs) (length table) = length-zip qs table in
    ⊎_elim (λ h. inr (omega arith)) (λ h. inl (omega arith)) (cases_lt (length olds) (length qs))

-- one owner more: q, who and old are what was read of the region, of the table and of the old owners
pub owner_step : (qs : List Region) (us : List Unit) (olds : List (Option ℕ)) (table : List (Option Unit)) (out : List (Option ℕ)) (r : ℕ) (q : Region) (who : Option Unit) (old x : Option ℕ) → Tabled (λ u. u) table us → r < length qs → r < length olds → r < 256 →
    q ≡ get_or qs r nowhere → who ≡ get_or table r None → old ≡ get_or olds r None → x ≡ cond q.centre (option_or (option_map (λ u. u.power) who) old) None →
    (out ++ x ∷ []) ++ owners_from (r + 1) (drop (r + 1) qs) us (drop (r + 1) olds) ≡ out ++ owners_from r (drop r qs) us (drop r olds)
owner_step qs us olds table out r q who old x tabled lq lo lr eq ew eo ex =
    append_assoc out (x ∷ []) (owners_from (r + 1) (drop (r + 1) qs) us (drop (r + 1) olds)) ∙
    ap (λ y. out ++ y ∷ owners_from (r + 1) (drop (r + 1) qs) us (drop (r + 1) olds)) is ∙
    ap (λ l. out ++ l) (sym (owners_more qs us olds r lq lo))
  where
    holds : option_or (option_map (λ u. u.power) who) old ≡ holder r us (get_or olds r None)
    holds = ap (λ w. option_or (option_map (λ u. u.power) w) old) (ew ∙ region_at None (first_at (λ u. u)) table us r tabled lr) ∙ holder_is r us old ∙ ap (holder r us) eo

    is : x ≡ cond (get_or qs r nowhere).centre (holder r us (get_or olds r None)) None
    is = ex ∙ ap (λ o. cond q.centre o None) holds ∙ ap (λ z. cond z.centre (holder r us (get_or olds r None)) None) eq
