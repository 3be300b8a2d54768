-- Where everything is yes or no, the rules with spans say just what the plain rules say.
use Rattle.std.proofs.Common.{◌≡◌, ℕ, zero, suc, ◌+◌, ◌<◌, Bool, true, false, cond, not, ◌&&◌, ◌||◌, eqb, ◌⊎◌, List, [], ◌∷◌, map, Some, None, Option, sym, refl, ap, ◌∙◌, subst, inl, inr, arith}
use mathlib.Core.List.{Memᴰ}
use Rattle.std.proofs.lemmas.Bool.{true≢false}
use Rattle.values.specs.Fold.{gather, any, number}
use Rattle.values.specs.declared.tri.Tri.{Tri}
use Rattle.values.specs.declared.tri.Tri.TheVariants.{No, Open, Yes}
use Rattle.values.specs.Tri.{not_tri, and_tri, or_tri, sure, is_yes, is_no}
use Rattle.values.specs.declared.span.Span.{Span}
use Rattle.values.specs.Span.{exactly, sum, greater, either, counted}
use Rattle.geography.specs.Links.{linked}
use Rattle.board.specs.Board.{Board}
use Rattle.board.specs.Order.{goes_to, is_move, is_convoyed, aim, supports_hold, convoys}
use Rattle.assignment.specs.declared.resolution.Resolution.{Resolution}
use Rattle.assignment.specs.Assignment.{who, entered, dislodged}
use Rattle.paths.specs.Paths.{carrier, chain, surely_stays, may_stay, path}
use Rattle.strength.specs.Strength.{support, backs, vacates, full, attack_on, attack, prevent_of, prevent, to_beat}
use Rattle.strength.specs.Decide.{rival, beats_rivals, move_succeeds, cuts, cut, support_stands}
use Rattle.deciding_laws.specs.Plain as plain
use Rattle.deciding_laws.specs.Answers.{start}
use Rattle.deciding_laws.specs.Plain.{Answer, enters, meet, ferries, Chain, begins, goes_on, Path, over_land, over_water, Attack, Prevent, MoveSucceeds, SupportStands}
use Rattle.deciding_laws.specs.PlainAgrees.{resolution, Tells, says_yes, says_no, Measures, Linked, SameRules, PlainAgrees}
use Rattle.deciding_laws.proofs.Along.{Along, none, more}
use Rattle.deciding_laws.proofs.Members.{mem_map, mem_of}
use Rattle.deciding_laws.proofs.Chains.{Implies, chain_monotone}
use Rattle.deciding_laws.proofs.SupportsDecided.{decides_move, decides-support}
use Rattle.deciding_laws.proofs.ChainsFound.{carries, all-reached, reached_first, reached-next, chain_of, chain_is}
use Rattle.deciding_laws.proofs.Tells.{tells_map, tells_not, tells_and, tells_or, tells_sure, tells_greater, tells_all, tells_some}

-- a fold over a list changed one by one
gather-map : {A B C : Type 0} (f : A → B) (test : B → Bool) (step : B → C → C) (start : C) (xs : List A) → gather test step start (map f xs) ≡ gather (λ x. test (f x)) (λ x r. step (f x) r) start xs
unfolding gather
gather-map f test step start [] = refl
gather-map f test step start (x ∷ xs) = λ i. cond (test (f x)) (step (f x) (gather-map f test step start xs i)) (gather-map f test step start xs i)

-- what is so of every answer is so along the list
along_resolved : (R : Resolution → Resolution → Type 0) → ((x : Answer) → R (resolution x) (resolution x)) → (xs : List Answer) → Along R (map resolution xs) (map resolution xs)
along_resolved R f [] = none
along_resolved R f (x ∷ xs) = more x.unit x.order (f x) (along_resolved R f xs)

-- ---- who is where
map_who : Option Answer → Option Resolution
map_who None = None
map_who (Some y) = Some (resolution y)

who_resolved : (r : ℕ) (xs : List Answer) → who r (map resolution xs) ≡ map_who (plain.who r xs)
unfolding gather map_who
who_resolved r [] = refl
who_resolved r (x ∷ xs) = elim (eqb r x.unit.region) as (λ b. cond b (Some (resolution x)) (who r (map resolution xs)) ≡ map_who (cond b (Some x) (plain.who r xs))) [ true ↦ refl | false ↦ who_resolved r xs ]

entered-plain : (r : ℕ) (xs : List Answer) → entered r (map resolution xs) ≡ sure (any (enters r) xs)
unfolding gather any
entered-plain r [] = refl
entered-plain r (x ∷ xs) = (λ i. cond (goes_to r x.order) (or_tri (sure x.success) (entered-plain r xs i)) (entered-plain r xs i)) ∙ step (goes_to r x.order) x.success (any (enters r) xs)
  where
    step : (g s r : Bool) → cond g (or_tri (sure s) (sure r)) (sure r) ≡ sure ((g && s) || r)
    step g s r = grind arith

-- ---- supports
support-plain : (test : Resolution → Bool) (xs : List Answer) → support test (map resolution xs) ≡ exactly (number (λ y. test (resolution y) && y.success) xs)
unfolding gather
support-plain test [] = refl
support-plain test (y ∷ ys) =
    (λ i. cond (test (resolution y)) (sum (counted (sure y.success)) (support-plain test ys i)) (support-plain test ys i)) ∙
    step (test (resolution y)) y.success (number (λ y. test (resolution y) && y.success) ys)
  where
    step : (b s : Bool) (n : ℕ) → cond b (sum (counted (sure s)) (exactly n)) (exactly n) ≡ exactly (cond (b && s) (suc n) n)
    step true true n = ap exactly (one_more n)
      where
        one_more : (n : ℕ) → 1 + n ≡ suc n
        one_more n = omega arith
    step true false n = ap exactly (no_more n)
      where
        no_more : (n : ℕ) → 0 + n ≡ n
        no_more n = omega arith
    step false s n = refl

module _ (m : Board) (xs : List Answer) where
  -- the same assignment, as resolutions
  abbrev zs : List Resolution
  zs = map resolution xs

  dislodged-plain : (x : Answer) → dislodged (resolution x) zs ≡ sure (plain.dislodged xs x)
  dislodged-plain x =
      (λ i. cond (is_move x.order) (and_tri (not_tri (sure x.success)) (entered-plain x.unit.region xs i)) (entered-plain x.unit.region xs i)) ∙
      step (is_move x.order) x.success (any (enters x.unit.region) xs)
    where
      step : (b s e : Bool) → cond b (and_tri (not_tri (sure s)) (sure e)) (sure e) ≡ sure (e && not (b && s))
      step b s e = grind arith

  -- ---- strengths of moves that have a path
  full-plain : (x : Answer) → full (resolution x) zs ≡ exactly (1 + plain.supports x xs)
  full-plain x = ap (λ s. sum (exactly 1) s) (support-plain (backs (resolution x)) xs)

  attack_on-plain : (x : Answer) (w : Option Answer) → attack_on (resolution x) zs (map_who w) ≡ exactly (plain.attack_on x xs w)
  unfolding map_who
  attack_on-plain x None = full-plain x
  attack_on-plain x (Some y) =
      (λ i. either (vacates (resolution x) (resolution y)) (full-plain x i) (cond (eqb x.unit.power y.unit.power) (exactly 0) (sum (exactly 1) (support-plain (λ z. backs (resolution x) z && not (eqb y.unit.power z.unit.power)) xs i)))) ∙
      step (is_move y.order && not (meet x y)) y.success (eqb x.unit.power y.unit.power) (1 + plain.supports x xs) (1 + plain.supports_but y.unit.power x xs)
    where
      step : (b s c : Bool) (n k : ℕ) → either (cond b (sure s) No) (exactly n) (cond c (exactly 0) (exactly k)) ≡ exactly (cond (b && s) n (cond c 0 k))
      step true true c n k = refl
      step true false true n k = refl
      step true false false n k = refl
      step false s true n k = refl
      step false s false n k = refl

  prevent_of-plain : (x : Answer) (w : Option Answer) → prevent_of (resolution x) zs (map_who w) ≡ exactly (plain.prevent_on x xs w)
  unfolding map_who
  prevent_of-plain x None = full-plain x
  prevent_of-plain x (Some y) = (λ i. cond (meet x y) (either (sure y.success) (exactly 0) (full-plain x i)) (full-plain x i)) ∙ step (meet x y) y.success (1 + plain.supports x xs)
    where
      step : (b s : Bool) (n : ℕ) → cond b (either (sure s) (exactly 0) (exactly n)) (exactly n) ≡ exactly (cond (b && s) 0 n)
      step true true n = refl
      step true false n = refl
      step false s n = refl

  to_beat_of : (x : Answer) (w : Option Answer) → to_beat (resolution x) zs (map_who w) ≡ exactly (plain.to_beat x xs w)
  unfolding map_who
  to_beat_of x None = refl
  to_beat_of x (Some y) =
      (λ i. cond (meet x y) (full-plain y i) (cond (is_move y.order) (either (sure y.success) (exactly 0) (exactly 1)) (sum (exactly 1) (support-plain (λ z. supports_hold y.unit.region z.order) xs i)))) ∙
      step (meet x y) (is_move y.order) y.success (1 + plain.supports y xs) (1 + plain.hold_supports y.unit.region xs)
    where
      step : (a b s : Bool) (n k : ℕ) → cond a (exactly n) (cond b (either (sure s) (exactly 0) (exactly 1)) (exactly k)) ≡ exactly (cond a n (cond b (cond s 0 1) k))
      step true b s n k = refl
      step false true true n k = refl
      step false true false n k = refl
      step false false s n k = refl

  to_beat-plain : (x : Answer) → to_beat (resolution x) zs (who (aim x.order) zs) ≡ exactly (plain.to_beat x xs (plain.who (aim x.order) xs))
  to_beat-plain x = ap (to_beat (resolution x) zs) (who_resolved (aim x.order) xs) ∙ to_beat_of x (plain.who (aim x.order) xs)

  -- ---- chains and paths
  stays_plain : (x : Answer) → surely_stays zs (resolution x) ≡ not (plain.dislodged xs x)
  stays_plain x = ap is_no (dislodged-plain x) ∙ no_sure (plain.dislodged xs x)
    where
      no_sure : (b : Bool) → is_no (sure b) ≡ not b
      no_sure b = grind arith

  may_surely : (x : Answer) → may_stay zs (resolution x) ≡ true → surely_stays zs (resolution x) ≡ true
  may_surely x e = step (plain.dislodged xs x) (dislodged (resolution x) zs) (dislodged-plain x) e
    where
      step : (b : Bool) (t : Tri) → t ≡ sure b → not (is_yes t) ≡ true → is_no t ≡ true
      step b t e f = grind arith

  module _ (f t : ℕ) where
    ferries_carries : (x : Answer) → carries m (surely_stays zs) f t zs (resolution x) ≡ ferries xs f t x
    ferries_carries x = ap (λ b. convoys f t x.order && b) (stays_plain x)

    chain_mem : {z : Answer} → Chain m xs f t z → Memᴰ z xs
    chain_mem (begins i c l) = i
    chain_mem (goes_on k i c l) = i

    chain-reached : {z : Answer} → Chain m xs f t z → carrier m (surely_stays zs) f t (all-reached m (surely_stays zs) f t zs) (resolution z) ≡ true
    chain-reached {z} (begins i c l) = reached_first m (surely_stays zs) f t zs (resolution z) (ferries_carries z ∙ c) l
    chain-reached {z} (goes_on {y} k i c l) =
        reached-next m (surely_stays zs) f t zs (resolution y) (resolution z) (mem_of resolution y xs (chain_mem k)) (chain-reached k) (mem_of resolution z xs i) (ferries_carries z ∙ c) l

    -- a fleet at r that ferries is reached by a chain
    Reaches : ℕ → Type 0
    Reaches r = (z : Answer) → Memᴰ z xs → ferries xs f t z ≡ true → z.unit.region ≡ r → Chain m xs f t z

    chain-linked : chain m (surely_stays zs) f t zs ≡ true → Linked m xs f t
    unfolding Reaches
    chain-linked e =
        let q = chain_is m (surely_stays zs) f t zs Reaches (λ r l z i c g. begins i c (subst (λ p. linked p f m.sail ≡ true) (sym g) l)) beside e in
        let y = mem_map resolution q.0 xs q.1 in
        record { last = y.0; links = q.3 y.0 y.1 (ferry q.0 y.0 y.2 q.2) (ap (λ w. w.unit.region) (sym y.2)); joined = subst (λ w. linked w.unit.region t m.sail ≡ true) y.2 q.4 }
      where
        ferry : (w : Resolution) (y : Answer) → w ≡ resolution y → carries m (surely_stays zs) f t zs w ≡ true → ferries xs f t y ≡ true
        ferry w y g d = sym (ferries_carries y) ∙ (ap (carries m (surely_stays zs) f t zs) (sym g) ∙ d)

        beside : (w : Resolution) → Memᴰ w zs → carries m (surely_stays zs) f t zs w ≡ true → Reaches w.unit.region → (r : ℕ) → linked r w.unit.region m.sail ≡ true → Reaches r
        beside w j d p r l z i c g =
            let y = mem_map resolution w xs j in
            let k = p y.0 y.1 (ferry w y.0 y.2 d) (ap (λ v. v.unit.region) (sym y.2)) in
            goes_on k i c (subst (λ p. linked p y.0.unit.region m.sail ≡ true) (sym g) (subst (λ v. linked r v.unit.region m.sail ≡ true) y.2 l))

    linked-chain : Linked m xs f t → chain m (surely_stays zs) f t zs ≡ true
    linked-chain l = chain_of m (surely_stays zs) f t zs (resolution l.last) (mem_of resolution l.last xs (chain_mem l.links)) (chain-reached l.links) l.joined

    may_chain : chain m (may_stay zs) f t zs ≡ true → chain m (surely_stays zs) f t zs ≡ true
    may_chain = chain_monotone m (may_stay zs) (surely_stays zs) f t (along_resolved (Implies (may_stay zs) (surely_stays zs)) may_surely xs)

  path-plain : (x : Answer) → Tells (Path m xs x) (path m (resolution x) zs)
  path-plain x = go (is_convoyed x.order) refl x.stranded refl (chain m (surely_stays zs) x.unit.region (aim x.order) zs) refl (chain m (may_stay zs) x.unit.region (aim x.order) zs) refl
    where
      Water : Type 0
      Water = Linked m xs x.unit.region (aim x.order)

      parts : Path m xs x → (is_convoyed x.order ≡ false) ⊎ ((x.stranded ≡ false) × Water)
      parts (over_land e) = inl e
      parts (over_water {z} n c l) = inr (n, record { last = z; links = c; joined = l })

      neither : is_convoyed x.order ≡ true → (x.stranded ≡ false → Water → ⊥) → (is_convoyed x.order ≡ false) ⊎ ((x.stranded ≡ false) × Water) → ⊥
      neither e n (inl f) = true≢false (sym e ∙ f)
      neither e n (inr w) = n w.0 w.1

      go : (b : Bool) → is_convoyed x.order ≡ b → (s : Bool) → x.stranded ≡ s → (c : Bool) → chain m (surely_stays zs) x.unit.region (aim x.order) zs ≡ c → (d : Bool) → chain m (may_stay zs) x.unit.region (aim x.order) zs ≡ d → Tells (Path m xs x) (cond (not b) Yes (cond s No (cond c Yes (cond d Open No))))
      go false e s f c g d h = says_yes (over_land e)
      go true e true f c g d h = says_no (λ p. neither e (λ n _. true≢false (sym f ∙ n)) (parts p))
      go true e false f true g d h = let l = chain-linked x.unit.region (aim x.order) g in says_yes (over_water f l.links l.joined)
      go true e false f false g true h = absurd (true≢false (sym (may_chain x.unit.region (aim x.order) h) ∙ g))
      go true e false f false g false h = says_no (λ p. neither e (λ _ w. true≢false (sym (linked-chain x.unit.region (aim x.order) w) ∙ g)) (parts p))

  -- ---- attacks and prevents
  attack-plain : (x : Answer) → Measures (Attack m xs x) (attack m (resolution x) zs)
  unfolding attack
  attack-plain x = go (path-plain x)
    where
      go : {t : Tri} → Tells (Path m xs x) t → Measures (Attack m xs x) (either t (attack_on (resolution x) zs (who (aim x.order) zs)) (exactly 0))
      go (says_yes p) = record { amount = plain.attack_on x xs (plain.who (aim x.order) xs); exact = ap (attack_on (resolution x) zs) (who_resolved (aim x.order) xs) ∙ attack_on-plain x (plain.who (aim x.order) xs); is = Attack.there p }
      go (says_no n) = record { amount = 0; exact = refl; is = Attack.stuck n }

  prevent-plain : (x : Answer) → Measures (Prevent m xs x) (prevent m (resolution x) zs)
  unfolding prevent
  prevent-plain x = go (path-plain x)
    where
      go : {t : Tri} → Tells (Path m xs x) t → Measures (Prevent m xs x) (either t (prevent_of (resolution x) zs (who (aim x.order) zs)) (exactly 0))
      go (says_yes p) = record { amount = plain.prevent_on x xs (plain.who (aim x.order) xs); exact = ap (prevent_of (resolution x) zs) (who_resolved (aim x.order) xs) ∙ prevent_of-plain x (plain.who (aim x.order) xs); is = Prevent.there p }
      go (says_no n) = record { amount = 0; exact = refl; is = Prevent.stuck n }

  -- a move has one attack, and one prevent
  attack_one : (x : Answer) {n k : ℕ} → Attack m xs x n → Attack m xs x k → n ≡ k
  attack_one x (Attack.stuck p) (Attack.stuck q) = refl
  attack_one x (Attack.stuck p) (Attack.there q) = absurd (p q)
  attack_one x (Attack.there p) (Attack.stuck q) = absurd (q p)
  attack_one x (Attack.there p) (Attack.there q) = refl

  prevent_one : (x : Answer) {n k : ℕ} → Prevent m xs x n → Prevent m xs x k → n ≡ k
  prevent_one x (Prevent.stuck p) (Prevent.stuck q) = refl
  prevent_one x (Prevent.stuck p) (Prevent.there q) = absurd (p q)
  prevent_one x (Prevent.there p) (Prevent.stuck q) = absurd (q p)
  prevent_one x (Prevent.there p) (Prevent.there q) = refl

  -- ---- moves
  greater_of : (s u : Span) (a b : ℕ) → s ≡ exactly a → u ≡ exactly b → Tells (b < a) (greater s u)
  greater_of s u a b e f = subst (λ v. Tells (b < a) (greater v u)) (sym e) (subst (λ v. Tells (b < a) (greater (exactly a) v)) (sym f) (tells_greater a b))

  outdone : (a : ℕ) (y : Answer) → Tells ((n : ℕ) → Prevent m xs y n → n < a) (greater (exactly a) (prevent m (resolution y) zs))
  outdone a y =
      let p = prevent-plain y in
      tells_map (λ l n q. subst (λ k. k < a) (prevent_one y p.is q) l) (λ h. h p.amount p.is) (greater_of (exactly a) (prevent m (resolution y) zs) a p.amount refl p.exact)

  move_plain : (x : Answer) → Tells (MoveSucceeds m xs x) (move_succeeds m (resolution x) zs)
  move_plain x =
      let a = attack-plain x in
      subst (λ s. Tells (MoveSucceeds m xs x) (and_tri (greater s (to_beat (resolution x) zs (who (aim x.order) zs))) (beats_rivals m s (resolution x) zs zs))) (sym a.exact)
      (tells_map (λ q. record { strength = a.amount; attacks = a.is; beats = q.0; outdoes = q.1 }) (parts a.amount a.is)
      (tells_and (greater_of (exactly a.amount) (to_beat (resolution x) zs (who (aim x.order) zs)) a.amount (plain.to_beat x xs (plain.who (aim x.order) xs)) refl (to_beat-plain x)) (rivals a.amount)))
    where
      Outdoes : ℕ → Type 0
      Outdoes a = (y : Answer) → Memᴰ y xs → plain.rival x y ≡ true → (n : ℕ) → Prevent m xs y n → n < a

      rivals : (a : ℕ) → Tells (Outdoes a) (beats_rivals m (exactly a) (resolution x) zs zs)
      rivals a =
          subst (λ t. Tells (Outdoes a) t) (sym (gather-map resolution (rival (resolution x)) (λ y r. and_tri (greater (exactly a) (prevent m y zs)) r) Yes xs))
          (tells_all (λ y. (n : ℕ) → Prevent m xs y n → n < a) (plain.rival x) (λ y. greater (exactly a) (prevent m (resolution y) zs)) xs (outdone a))

      parts : (a : ℕ) → Attack m xs x a → MoveSucceeds m xs x → (plain.to_beat x xs (plain.who (aim x.order) xs) < a) × Outdoes a
      parts a i s = subst (λ k. (plain.to_beat x xs (plain.who (aim x.order) xs) < k) × Outdoes k) (attack_one x s.attacks i) (s.beats, s.outdoes)

  -- ---- supports
  hits_plain : (y : Answer) → Tells ((n : ℕ) × Attack m xs y n × (0 < n)) (greater (attack m (resolution y) zs) (exactly 0))
  hits_plain y =
      let a = attack-plain y in
      tells_map (λ l. (a.amount, a.is, l)) (λ q. subst (λ k. 0 < k) (attack_one y q.1 a.is) q.2) (greater_of (attack m (resolution y) zs) (exactly 0) a.amount 0 a.exact refl)

  support_plainly : (x : Answer) → Tells (SupportStands m xs x) (support_stands m (resolution x) zs)
  support_plainly x = tells_map stands fails (tells_not (tells_or cut-plain (subst (λ t. Tells (plain.dislodged xs x ≡ true) t) (sym (dislodged-plain x)) (tells_sure (plain.dislodged xs x)))))
    where
      Cut : Type 0
      Cut = (y : Answer) × Memᴰ y xs × (plain.cuts x y ≡ true) × ((n : ℕ) × Attack m xs y n × (0 < n))

      cut-plain : Tells Cut (cut m (resolution x) zs zs)
      cut-plain =
          subst (λ t. Tells Cut t) (sym (gather-map resolution (cuts (resolution x)) (λ y r. or_tri (greater (attack m y zs) (exactly 0)) r) No xs))
          (tells_some (λ y. (n : ℕ) × Attack m xs y n × (0 < n)) (plain.cuts x) (λ y. greater (attack m (resolution y) zs) (exactly 0)) xs hits_plain)

      not_so : (b : Bool) → (b ≡ true → ⊥) → b ≡ false
      not_so true n = absurd (n refl)
      not_so false n = refl

      none : (n : ℕ) → (0 < n → ⊥) → n ≡ 0
      none zero h = refl
      none (suc n) h = absurd (h (omega arith))

      stands : (Cut ⊎ (plain.dislodged xs x ≡ true) → ⊥) → SupportStands m xs x
      stands h = record { stays = not_so (plain.dislodged xs x) (λ e. h (inr e)); uncut = λ y i c n a. none n (λ l. h (inl (y, i, c, (n, a, l)))) }

      fails : SupportStands m xs x → Cut ⊎ (plain.dislodged xs x ≡ true) → ⊥
      fails s (inl c) = absurd (omega (arith, s.uncut c.0 c.1 c.2 c.3.0 c.3.1, c.3.2))
      fails s (inr e) = true≢false (sym e ∙ s.stays)

  pub same_rules : SameRules m xs
  same_rules =
      record {
        dislodgings = dislodged-plain;
        chains = λ f t. (chain-linked f t, linked-chain f t);
        paths = path-plain;
        attacks = attack-plain;
        prevents = prevent-plain;
        defences = to_beat-plain;
        moves = λ x k. subst (λ t. Tells (MoveSucceeds m xs x) t) (sym (decides_move m (resolution x) zs x.order k)) (move_plain x);
        supports = λ x k. subst (λ t. Tells (SupportStands m xs x) t) (sym (decides-support m (resolution x) zs x.order k)) (support_plainly x);
      }

pub plain-agrees : PlainAgrees
plain-agrees m xs = same_rules m xs
