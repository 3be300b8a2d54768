-- An assignment keeps the plain rules just if it is consistent; so what is proved of consistent ones is so of answers.
use Rattle.std.proofs.Common.{◌≡◌, ℕ, zero, suc, ◌+◌, Bool, true, false, cond, ◌&&◌, ◌⊎◌, List, [], ◌∷◌, map, length, sym, refl, ap, ◌∙◌, subst, inl, inr, arith}
use mathlib.Core.List.{Memᴰ}
use Rattle.std.proofs.lemmas.Bool.{true≢false, false≢true, or_cases}
use Rattle.values.specs.Fold.{gather, select, distinct}
use Rattle.values.specs.declared.tri.Tri.{Tri}
use Rattle.values.specs.declared.tri.Tri.TheVariants.{No, Yes}
use Rattle.values.specs.Tri.{sure, is_yes, is_open}
use Rattle.board.specs.declared.order.Order.{Order}
use Rattle.board.specs.Board.{Board}
use Rattle.board.specs.Order.{goes_to, is_move, is_support}
use Rattle.assignment.specs.declared.resolution.Resolution.{Resolution}
use Rattle.assignment.specs.Assignment.{dislodged}
use Rattle.paths.specs.Paths.{path}
use Rattle.strength.specs.Decide.{decides}
use Rattle.deciding.specs.Rounds.{again, round, rounds, decided}
use Rattle.deciding.specs.Outcome.{paradox, strand_one, strand, close_one, close, Ordered, fresh_one, fresh, settled, outcome}
use Rattle.deciding_laws.specs.Plain as plain
use Rattle.deciding_laws.specs.Answers.{answer, answers, blank, commanded, start, NothingOpen, Ashore, AnswersKeepRules, DecidedIsNecessary, RuledDislodgesByOne, OneAnswer}
use Rattle.deciding_laws.specs.Assignments.{acts, reopened, Consistent, Agrees, both_end, both_go_on}
use Rattle.deciding_laws.specs.Consistent.{OutcomeFits}
use Rattle.deciding_laws.specs.Dislodged.{came}
use Rattle.deciding_laws.specs.Plain.{Answer, enters, Path, MoveSucceeds, SupportStands, JustIf, Ruled}
use Rattle.deciding_laws.specs.PlainAgrees.{resolution, Tells, says_yes, says_no}
use Rattle.deciding_laws.proofs.Along.{it}
use Rattle.deciding_laws.proofs.Members.{mem_map, mem_of}
use Rattle.deciding_laws.proofs.Forced.{forced_from}
use Rattle.deciding_laws.proofs.Exact.{Known}
use Rattle.deciding_laws.proofs.SupportsDecided.{decides_none}
use Rattle.deciding_laws.proofs.StrandedOnce.{not_open_known}
use Rattle.deciding_laws.proofs.Consistent.{fixed_at, clear, first, second, first_fix, second_fix, settled_from, outcome_consistent}
use Rattle.deciding_laws.proofs.DislodgedByOne.{by_one}
use Rattle.deciding_laws.proofs.Tells.{yes_sure}
use Rattle.deciding_laws.proofs.PlainAgrees.{same_rules}

tells_just : {P : Type 0} {t : Tri} (b : Bool) → Tells P t → JustIf b P → t ≡ sure b
tells_just true (says_yes p) j = refl
tells_just false (says_yes p) j = absurd (false≢true (j.1 p))
tells_just true (says_no n) j = absurd (n (j.0 refl))
tells_just false (says_no n) j = refl

just_tells : {P : Type 0} (b : Bool) → Tells P (sure b) → JustIf b P
just_tells true (says_yes p) = (λ _. p, λ _. refl)
just_tells false (says_no n) = (λ e. absurd (false≢true e), λ p. absurd (n p))

sure_known : (b : Bool) → is_open (sure b) ≡ false
sure_known b = grind arith

known_sure : (t : Tri) → is_open t ≡ false → sure (is_yes t) ≡ t
known_sure t e = grind arith

pub ruled_consistent : (m : Board) (xs : List Answer) → Ruled m xs → Consistent m (map resolution xs)
ruled_consistent m xs r =
    record {
      known = λ y i _. let q = mem_map resolution y xs i in subst (λ z. is_open z.value ≡ false) (sym q.2) (sure_known q.0.success);
      fits = λ y i k. let q = mem_map resolution y xs i in subst (λ z. decides m z (map resolution xs) z.order ≡ z.value) (sym q.2) (fits q.0 q.1 (or_cases (is_move q.0.order) (is_support q.0.order) (ap (λ z. acts z.order) (sym q.2) ∙ k)));
    }
  where
    fits : (x : Answer) → Memᴰ x xs → (is_move x.order ≡ true) ⊎ (is_support x.order ≡ true) → decides m (resolution x) (map resolution xs) x.order ≡ sure x.success
    fits x i (inl k) = tells_just x.success ((same_rules m xs).moves x k) (r.moves x i k)
    fits x i (inr k) = tells_just x.success ((same_rules m xs).supports x k) (r.supports x i k)

pub consistent_ruled : (m : Board) (xs : List Answer) → ((x : Answer) → Memᴰ x xs → decides m (resolution x) (map resolution xs) x.order ≡ sure x.success) → Ruled m xs
consistent_ruled m xs h =
    record {
      moves = λ x i k. just_tells x.success (subst (λ t. Tells (MoveSucceeds m xs x) t) (h x i) ((same_rules m xs).moves x k));
      supports = λ x i k. just_tells x.success (subst (λ t. Tells (SupportStands m xs x) t) (h x i) ((same_rules m xs).supports x k));
      others = λ x i a b. is_no x.success (sym (h x i) ∙ decides_none m (resolution x) (map resolution xs) x.order a b);
    }
  where
    is_no : (b : Bool) → sure b ≡ No → b ≡ false
    is_no b e = grind arith

-- ---- a list in which nothing is open, there and back
pub there_and_back : (zs : List Resolution) → NothingOpen zs → map resolution (map answer zs) ≡ zs
there_and_back [] h = refl
there_and_back (z ∷ zs) h = λ i. it z.unit z.order (known_sure z.value (h z (Memᴰ.head refl)) i) z.stranded ∷ there_and_back zs (λ x j. h x (Memᴰ.tail j)) i

back_and_there : (xs : List Answer) → map answer (map resolution xs) ≡ xs
back_and_there [] = refl
back_and_there (x ∷ xs) = λ i. record { unit = x.unit; order = x.order; success = yes_sure x.success i; stranded = x.stranded } ∷ back_and_there xs i

-- a fixed list in which nothing is open keeps the rules
module _ (m : Board) (zs : List Resolution) (known : NothingOpen zs) where
  returned : map resolution (map answer zs) ≡ zs
  returned = there_and_back zs known

  pub answers_ruled : ((x : Resolution) → Memᴰ x zs → decides m x zs x.order ≡ x.value) → Ruled m (map answer zs)
  answers_ruled fits = consistent_ruled m (map answer zs) (λ x i. let j = subst (λ l. Memᴰ (resolution x) l) returned (mem_of resolution x (map answer zs) i) in subst (λ l. decides m (resolution x) l x.order ≡ sure x.success) (sym returned) (fits (resolution x) j))

  pub path-told : (x : Resolution) → is_open x.value ≡ false → Tells (Path m (map answer zs) (answer x)) (path m x zs)
  path-told x k = subst (λ l. Tells (Path m (map answer zs) (answer x)) (path m x l)) returned (subst (λ v. Tells (Path m (map answer zs) (answer x)) (path m (it x.unit x.order v x.stranded) (map resolution (map answer zs)))) (known_sure x.value k) ((same_rules m (map answer zs)).paths (answer x)))

  pub dislodged-told : (x : Resolution) → is_open x.value ≡ false → dislodged x zs ≡ sure (plain.dislodged (map answer zs) (answer x))
  dislodged-told x k = subst (λ l. dislodged x l ≡ sure (plain.dislodged (map answer zs) (answer x))) returned (subst (λ v. dislodged (it x.unit x.order v x.stranded) (map resolution (map answer zs)) ≡ sure (plain.dislodged (map answer zs) (answer x))) (known_sure x.value k) ((same_rules m (map answer zs)).dislodgings (answer x)))

tells_no : {P : Type 0} {t : Tri} → Tells P t → t ≡ No → P → ⊥
tells_no (says_yes p) e q = absurd (true≢false (ap is_yes e))
tells_no (says_no n) e q = n q

pub map_twice : {A B C : Type 0} (f : A → B) (g : B → C) (xs : List A) → map g (map f xs) ≡ map (λ x. g (f x)) xs
map_twice f g [] = refl
map_twice f g (x ∷ xs) = ap (λ r. g (f x) ∷ r) (map_twice f g xs)

pub answers_keep_rules : AnswersKeepRules
answers_keep_rules m os a =
    record {
      units = map_twice answer commanded (outcome m os) ∙ c.units;
      ruled = answers_ruled m (outcome m os) c.known c.fits;
      ashore = λ x i s. let q = mem_map answer x (outcome m os) i in subst (Ashore m (answers m os)) (sym q.2) (ashore q.0 q.1 (ap (λ y. y.stranded) (sym q.2) ∙ s));
    }
  where
    c : OutcomeFits m os
    c = outcome_consistent m os a

    ashore : (x : Resolution) → Memᴰ x (outcome m os) → x.stranded ≡ true → Ashore m (answers m os) (answer x)
    ashore x i s = let k = c.stranded x i s in record { over_water = k.over_water; failed = ap is_yes k.failed; pathless = tells_no (path-told m (outcome m os) c.known x (c.known x i)) k.pathless }

-- ---- what is decided is necessary
reopened-blank : (xs : List Answer) → map reopened (map resolution xs) ≡ map blank xs
reopened-blank xs = map_twice resolution reopened xs

settled-decided : (m : Board) (os : List Ordered) → settled m os ≡ decided m (start m os)
settled-decided m os = elim (paradox m (decided m (fresh m os))) as (λ b. cond b (decided m (strand m (decided m (fresh m os)))) (decided m (fresh m os)) ≡ decided m (cond b (strand m (decided m (fresh m os))) (fresh m os))) [ true ↦ refl | false ↦ refl ]

pub decided_is_necessary : DecidedIsNecessary
decided_is_necessary m os =
    record {
      first = λ xs e r. forced_from m (fresh m os) (map resolution xs) (reopened-blank xs ∙ e) (ruled_consistent m xs r);
      last = λ xs e r. subst (λ s. Agrees s (map resolution xs)) (sym (settled-decided m os)) (forced_from m (start m os) (map resolution xs) (reopened-blank xs ∙ e) (ruled_consistent m xs r));
    }

-- ---- whoever is dislodged is so by one
select_back : (test : Resolution → Bool) (xs : List Answer) → map answer (select test (map resolution xs)) ≡ select (λ x. test (resolution x)) xs
unfolding gather
select_back test [] = refl
select_back test (x ∷ xs) = elim (test (resolution x)) as (λ b. map answer (cond b (resolution x ∷ select test (map resolution xs)) (select test (map resolution xs))) ≡ cond b (x ∷ select (λ x. test (resolution x)) xs) (select (λ x. test (resolution x)) xs)) [ true ↦ (λ i. record { unit = x.unit; order = x.order; success = yes_sure x.success i; stranded = x.stranded } ∷ select_back test xs i) | false ↦ select_back test xs ]

came-enters : (r : ℕ) (xs : List Answer) → select (λ x. came r (resolution x)) xs ≡ select (enters r) xs
came-enters r xs = λ i. select (λ x. goes_to r x.order && yes_sure x.success i) xs

pub ruled_dislodges_by_one : RuledDislodgesByOne
ruled_dislodges_by_one m xs d r x i e =
    let b = by_one m (map resolution xs) (ruled_consistent m xs r) (ap distinct (map_twice resolution (λ z. z.unit.region) xs) ∙ d) (resolution x) (mem_of resolution x xs i) ((same_rules m xs).dislodgings x ∙ ap sure e) in
    record { by = answer b.by; alone = sym (select_back (came x.unit.region) xs ∙ came-enters x.unit.region xs) ∙ ap (map answer) b.alone; foreign = b.foreign }

-- ---- where nothing is open, there is one answer
agrees_equal : {zs ys : List Resolution} → Agrees zs ys → NothingOpen zs → ((z : Resolution) → Memᴰ z zs → acts z.order ≡ false → z.value ≡ No) → ((y : Resolution) → Memᴰ y ys → acts y.order ≡ false → y.value ≡ No) → zs ≡ ys
agrees_equal both_end k p q = refl
agrees_equal (both_go_on {x} {y} {xs} {ys} e v a) k p q =
    let r = agrees_equal a (λ z i. k z (Memᴰ.tail i)) (λ z i. p z (Memᴰ.tail i)) (λ z i. q z (Memᴰ.tail i)) in
    let w = go (acts x.order) refl in
    λ i. it (e i).unit (e i).order (w i) (e i).stranded ∷ r i
  where
    go : (b : Bool) → acts x.order ≡ b → x.value ≡ y.value
    go true f = v f (k x (Memᴰ.head refl))
    go false f = p x (Memᴰ.head refl) f ∙ sym (q y (Memᴰ.head refl) (ap (λ z. acts z.order) (sym e) ∙ f))

close_known_all : (zs : List Resolution) → NothingOpen zs → close zs ≡ zs
close_known_all [] h = refl
close_known_all (z ∷ zs) h = λ i. it z.unit z.order (step (is_move z.order) z.value (h z (Memᴰ.head refl)) i) z.stranded ∷ close_known_all zs (λ x j. h x (Memᴰ.tail j)) i
  where
    step : (b : Bool) (v : Tri) → is_open v ≡ false → cond (b && is_open v) Yes v ≡ v
    step b v e = grind arith

none_acts : (o : Order) → acts o ≡ false → (is_move o ≡ false) × (is_support o ≡ false)
none_acts o e = grind arith

-- a fixed list in which nothing is open is what rounds begun with its marks come to, so no other keeps the rules
unique_of : (m : Board) (begin zs : List Resolution) → decided m begin ≡ zs → round m zs ≡ zs → NothingOpen zs → (xs : List Answer) → map blank xs ≡ begin → Ruled m xs → xs ≡ map answer zs
unique_of m begin zs d f k xs e r =
    let a = subst (λ l. Agrees l (map resolution xs)) d (forced_from m begin (map resolution xs) (reopened-blank xs ∙ e) (ruled_consistent m xs r)) in
    let s = agrees_equal a k (λ z i n. let h = none_acts z.order n in sym (fixed_at m zs f z i) ∙ decides_none m z zs z.order h.0 h.1) others in
    sym (ap (map answer) s ∙ back_and_there xs)
  where
    others : (y : Resolution) → Memᴰ y (map resolution xs) → acts y.order ≡ false → y.value ≡ No
    others y i n =
        let q = mem_map resolution y xs i in
        let h = none_acts q.0.order (ap (λ z. acts z.order) (sym q.2) ∙ n) in
        ap (λ z. z.value) q.2 ∙ ap sure (r.others q.0 q.1 h.0 h.1)

-- rounds and rings change no mark
rounds-reopened : (m : Board) (n : ℕ) (xs : List Resolution) → map reopened (rounds n m xs) ≡ map reopened xs
unfolding rounds
rounds-reopened m zero xs = refl
rounds-reopened m (suc n) xs = rounds-reopened m n (round m xs) ∙ map_twice (again m xs) reopened xs

start-blank : (m : Board) (os : List Ordered) → map reopened (start m os) ≡ start m os
start-blank m os =
    elim (paradox m (decided m (fresh m os))) as (λ b. map reopened (cond b (strand m (decided m (fresh m os))) (fresh m os)) ≡ cond b (strand m (decided m (fresh m os))) (fresh m os))
    [ true ↦ map_twice (strand_one m (decided m (fresh m os))) reopened (decided m (fresh m os)) | false ↦ map_twice (fresh_one m) reopened os ]

pub answers_begin : (m : Board) (os : List Ordered) → map blank (answers m os) ≡ start m os
answers_begin m os =
    map_twice answer blank (outcome m os) ∙ (map_twice close_one reopened (settled m os) ∙
    (ap (map reopened) (settled-decided m os) ∙ (rounds-reopened m (length (start m os) + 1) (start m os) ∙ start-blank m os)))

tells_known : {P : Type 0} {t : Tri} → Tells P t → Known t
tells_known (says_yes p) = Known.yes
tells_known (says_no n) = Known.no

-- where nothing is open there is no paradox
open_clear : (m : Board) (zs : List Resolution) → NothingOpen zs → paradox m zs ≡ false
open_clear m zs k = clear m zs (λ x i _. not_open_known x.value (k x i)) (λ x i _. tells_known (path-told m zs k x (k x i)))

pub one_answer : OneAnswer
unfolding first second
one_answer m os = record { plainly = plainly; marked = marked }
  where
    Only : List Resolution → Type 0
    Only begin = (map blank (answers m os) ≡ begin) × ((xs : List Answer) → map blank xs ≡ begin → Ruled m xs → xs ≡ answers m os)

    marked : NothingOpen (settled m os) → Only (start m os)
    marked k = (
      answers_begin m os,
      λ xs e r. unique_of m (start m os) (settled m os) (sym (settled-decided m os)) (settled_from m os (λ zs. round m zs ≡ zs) (λ _. first_fix m os) (second_fix m os)) k xs e r ∙ ap (map answer) (sym (close_known_all (settled m os) k)),
    )

    plainly : NothingOpen (decided m (fresh m os)) → Only (fresh m os)
    plainly k =
        let p = open_clear m (decided m (fresh m os)) k in
        let s : start m os ≡ fresh m os = ap (λ b. cond b (strand m (decided m (fresh m os))) (fresh m os)) p in
        let t : settled m os ≡ decided m (fresh m os) = ap (λ b. cond b (decided m (strand m (decided m (fresh m os)))) (decided m (fresh m os))) p in
        subst Only s (marked (subst NothingOpen (sym t) k))
