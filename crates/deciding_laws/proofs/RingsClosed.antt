-- Where supports and paths are decided, what is still open goes round in rings, and closing them leaves everything as the others decide it.
use Rattle.std.proofs.Common.{◌≡◌, ℕ, ◌+◌, ◌<◌, ◌≤◌, Bool, true, false, cond, not, ◌&&◌, eqb, leb, ◌⊎◌, List, [], ◌∷◌, Some, None, Option, sym, refl, ap, ◌∙◌, subst, inl, inr, arith}
use mathlib.Core.List.{Memᴰ}
use Rattle.std.proofs.lemmas.Bool.{true≢false, false≢true, and_parts}
use Rattle.values.specs.Fold.{gather}
use Rattle.values.specs.declared.tri.Tri.{Tri}
use Rattle.values.specs.declared.tri.Tri.TheVariants.{No, Open, Yes}
use Rattle.values.specs.Tri.{is_no, is_open}
use Rattle.values.specs.declared.span.Span.{Span}
use Rattle.values.specs.Span.{exactly, sum, greater, greater_of, either}
use Rattle.board.specs.Board.{Board}
use Rattle.board.specs.Order.{goes_to, is_move, is_support, aim}
use Rattle.assignment.specs.declared.resolution.Resolution.{Resolution}
use Rattle.assignment.specs.Assignment.{who}
use Rattle.paths.specs.Paths.{path}
use Rattle.strength.specs.Strength.{backs, support_for, support_but, head_to_head, full, against, attack, prevent, to_beat}
use Rattle.strength.specs.Decide.{rival, beats_rivals, move_succeeds, decides}
use Rattle.deciding.specs.Outcome.{close_one, close}
use Rattle.deciding_laws.proofs.Information.{Below, opens, same, below_of, Within}
use Rattle.deciding_laws.proofs.Along.{Along, none, more, Lower}
use Rattle.deciding_laws.proofs.Members.{mem_map}
use Rattle.deciding_laws.proofs.Places.{who_in}
use Rattle.deciding_laws.proofs.Folds.{open_and, open_each, each_and}
use Rattle.deciding_laws.proofs.RoundMonotone.{path_monotone, Finer, support_for_monotone, attack_monotone, prevent_monotone, decides_monotone, Under, finer_same, under_lower}
use Rattle.deciding_laws.proofs.Exact.{Known, Exact, support_le, goes_to-aim, Calm, Still, support_for_exact, prevent_exact, move_succeeds_known}
use Rattle.deciding_laws.proofs.SupportsDecided.{decides_move, decides_none, weak_no, Rest, supports_known}

close_open : (b : Bool) (v : Tri) → (v ≡ Open) ⊎ (v ≡ cond (b && is_open v) Yes v)
close_open b v = grind arith

close_below : (b : Bool) (v : Tri) → Below v (cond (b && is_open v) Yes v)
close_below b v = below_of (close_open b v)

pub close_known : (b : Bool) {v : Tri} → Known v → cond (b && is_open v) Yes v ≡ v
close_known true Known.no = refl
close_known true Known.yes = refl
close_known false k = refl

pub close-under : (zs : List Resolution) → Along Under zs (close zs)
close-under [] = none
close-under (x ∷ xs) = more x.unit x.order (record { value = close_below (is_move x.order) x.value; stranded = refl }) (close-under xs)

close_who : Option Resolution → Option Resolution
close_who None = None
close_who (Some y) = Some (close_one y)

who-close : (r : ℕ) (zs : List Resolution) → who r (close zs) ≡ close_who (who r zs)
unfolding gather close_who
who-close r [] = refl
who-close r (x ∷ xs) = elim (eqb r x.unit.region) as (λ b. cond b (Some (close_one x)) (who r (close xs)) ≡ close_who (cond b (Some x) (who r xs))) [ true ↦ refl | false ↦ who-close r xs ]

either_zero : (p : Tri) → either p (exactly 0) (exactly 0) ≡ exactly 0
either_zero p = grind arith

not_no_greater : (a b : Span) → is_no (greater a b) ≡ false → a.least ≤ a.greatest → b.least ≤ b.greatest → b.least < a.greatest
not_no_greater a b e f g = grind arith

greater_yes : (a b : Span) → b.greatest < a.least → greater a b ≡ Yes
greater_yes a b h = grind arith

-- a ring: the unit y in the region that x goes to goes elsewhere, and is open too
module _ (m : Board) (zs : List Resolution) (rest : Rest m zs) where
  known : (t : ℕ) (z : Resolution) → Memᴰ z zs → is_support z.order ≡ true → aim z.order ≡ t → Known z.value
  known t z i h _ = supports_known m zs rest z i h

  under : Along Lower zs (close zs)
  under = under_lower (close-under zs)

  finer : Along (Finer m zs (close zs)) zs (close zs)
  finer = finer_same m under (close-under zs)

  finer_one : (x : Resolution) → Finer m zs (close zs) x (close_one x)
  finer_one x = record { value = λ _. close_below (is_move x.order) x.value; paths = path_monotone m x.unit x.order x.value (close_one x).value x.stranded under }

  attack_in : (x : Resolution) → Within (attack m x zs) (attack m (close_one x) (close zs))
  attack_in x = attack_monotone m finer x.unit x.order x.value (close_one x).value x.stranded x.stranded (finer_one x)

  prevent_in : (x : Resolution) → Within (prevent m x zs) (prevent m (close_one x) (close zs))
  prevent_in x = prevent_monotone m finer x.unit x.order x.value (close_one x).value x.stranded x.stranded (finer_one x)

  support_for_in : (x : Resolution) → Within (support_for x zs) (support_for (close_one x) (close zs))
  support_for_in x = support_for_monotone under x.unit x.order x.value (close_one x).value x.stranded x.stranded

  module _ (x y : Resolution) (path-x : path m x zs ≡ Yes) (here : who (aim x.order) zs ≡ Some y) (go-y : is_move y.order ≡ true) (apart : head_to_head x y ≡ false) (open-y : y.value ≡ Open) where
    here_closed : who (aim x.order) (close zs) ≡ Some (close_one y)
    unfolding close_who
    here_closed = who-close (aim x.order) zs ∙ ap close_who here

    path_closed : path m (close_one x) (close zs) ≡ Yes
    path_closed = go (finer_one x).paths path-x
      where
        go : {a b : Tri} → Below a b → a ≡ Yes → b ≡ Yes
        go opens e = absurd (true≢false (ap is_open e))
        go same e = e

    attack_closed : attack m (close_one x) (close zs) ≡ full (close_one x) (close zs)
    unfolding attack
    attack_closed = rw (path_closed, here_closed, go-y, apart, open-y)

    to_beat_closed : to_beat (close_one x) (close zs) (who (aim x.order) (close zs)) ≡ exactly 0
    to_beat_closed = rw (here_closed, apart, go-y, open-y)

    support_exact_x : Exact (support_for x zs)
    support_exact_x = support_for_exact m zs (aim x.order) (known (aim x.order)) rest.paths x refl

    against_low : (against x zs y).greatest ≤ 1 + (support_for x zs).greatest
    against_low = go (eqb x.unit.power y.unit.power)
      where
        fewer : (support_but y.unit.power x zs).greatest ≤ (support_for x zs).greatest
        fewer = support_le (λ z. backs x z && not (eqb y.unit.power z.unit.power)) (backs x) zs (λ z k. (and_parts (backs x z) (not (eqb y.unit.power z.unit.power)) k).0)

        go : (b : Bool) → (cond b (exactly 0) (sum (exactly 1) (support_but y.unit.power x zs))).greatest ≤ 1 + (support_for x zs).greatest
        go true = omega arith
        go false = omega (arith, fewer)

    attack_open : attack m x zs ≡ either Open (full x zs) (against x zs y)
    unfolding attack
    attack_open = rw (path-x, here, go-y, apart, open-y)

    greater_le : (a b c : ℕ) → a ≤ c → b ≤ c → greater_of a b ≤ c
    greater_le a b c p q = elim (leb a b) as (λ t. cond t b a ≤ c) [ true ↦ q | false ↦ p ]

    attack_high : (attack m x zs).greatest ≤ (attack m (close_one x) (close zs)).least
    attack_high =
        rw (attack_closed, attack_open) (omega (arith, greater_le (1 + (support_for x zs).greatest) (against x zs y).greatest (1 + (support_for x zs).greatest) (omega arith) against_low, support_exact_x.exact, (support_for_in x).low))

    attack_some : 1 ≤ (attack m (close_one x) (close zs)).least
    attack_some = rw attack_closed (omega arith)

    beats_one : (z : Resolution) → Memᴰ z zs → is_move z.order ≡ true → aim z.order ≡ aim x.order → is_no (greater (attack m x zs) (prevent m z zs)) ≡ false → greater (attack m (close_one x) (close zs)) (prevent m (close_one z) (close zs)) ≡ Yes
    unfolding prevent
    beats_one z j k e n = go (head_to_head z y) refl
      where
        there_z : who (aim z.order) (close zs) ≡ Some (close_one y)
        there_z = ap (λ r. who r (close zs)) e ∙ here_closed

        go : (b : Bool) → head_to_head z y ≡ b → greater (attack m (close_one x) (close zs)) (prevent m (close_one z) (close zs)) ≡ Yes
        go true f =
            let p : prevent m (close_one z) (close zs) ≡ exactly 0 = rw (there_z, f, go-y, open-y) (either_zero (path m (close_one z) (close zs))) in
            greater_yes (attack m (close_one x) (close zs)) (prevent m (close_one z) (close zs)) (rw p attack_some)
        go false f =
            let s = prevent_exact m zs (aim x.order) (known (aim x.order)) rest.paths z j k e (subst (λ w. Still z w) (sym here) (λ q. absurd (true≢false (sym q ∙ f)))) in
            let w = prevent_in z in
            let v = attack_in x in
            let l : (prevent m z zs).least < (attack m x zs).greatest = not_no_greater (attack m x zs) (prevent m z zs) n (omega arith) (omega arith) in
            greater_yes (attack m (close_one x) (close zs)) (prevent m (close_one z) (close zs)) (omega (arith, attack_high, s.exact))

    rivals_closed : is_no (beats_rivals m (attack m x zs) x zs zs) ≡ false → beats_rivals m (attack m (close_one x) (close zs)) (close_one x) (close zs) (close zs) ≡ Yes
    rivals_closed n = each_and (rival (close_one x)) (λ z. greater (attack m (close_one x) (close zs)) (prevent m z (close zs))) (close zs) (λ z' j t. let q = mem_map close_one z' zs j in subst (λ w. greater (attack m (close_one x) (close zs)) (prevent m w (close zs)) ≡ Yes) (sym q.2) (beaten q.0 q.1 (ap (rival (close_one x)) (sym q.2) ∙ t)))
      where
        beaten : (z : Resolution) → Memᴰ z zs → rival x z ≡ true → greater (attack m (close_one x) (close zs)) (prevent m (close_one z) (close zs)) ≡ Yes
        beaten z j t =
            let g = goes_to-aim (aim x.order) z.order (and_parts (goes_to (aim x.order) z.order) (not (eqb x.unit.region z.unit.region)) t).0 in
            beats_one z j g.0 g.1 (open_each (rival x) (λ y. greater (attack m x zs) (prevent m y zs)) zs n z j t)

    move_closed : is_no (move_succeeds m x zs) ≡ false → move_succeeds m (close_one x) (close zs) ≡ Yes
    move_closed n =
        let h = open_and (greater (attack m x zs) (to_beat x zs (who (aim x.order) zs))) (beats_rivals m (attack m x zs) x zs zs) n in
        let p : greater (attack m (close_one x) (close zs)) (to_beat (close_one x) (close zs) (who (aim x.order) (close zs))) ≡ Yes = greater_yes (attack m (close_one x) (close zs)) (to_beat (close_one x) (close zs) (who (aim x.order) (close zs))) (rw to_beat_closed attack_some) in
        let q = rivals_closed h.1 in
        rw (p, q)

  open_not_known : {v : Tri} → Known v → v ≡ Open → ⊥
  open_not_known Known.no e = false≢true (ap is_open e)
  open_not_known Known.yes e = false≢true (ap is_open e)

  pub record Waits (x y : Resolution) : Type 0 where
    pub goes : is_move y.order ≡ true
    pub apart : head_to_head x y ≡ false
    pub opened : y.value ≡ Open

  -- all is calm where x goes, or x waits for just one other
  waits : (x y : Resolution) (t : ℕ) → y.unit.region ≡ t → Calm zs t x (Some y) ⊎ Waits x y
  waits x y t e = go y.value refl (is_move y.order) refl (head_to_head x y) refl
    where
      helped : head_to_head x y ≡ true → Exact (support_for y zs)
      helped _ = support_for_exact m zs (aim y.order) (known (aim y.order)) rest.paths y refl

      go : (v : Tri) → y.value ≡ v → (b : Bool) → is_move y.order ≡ b → (c : Bool) → head_to_head x y ≡ c → Calm zs t x (Some y) ⊎ Waits x y
      go No p b q c r = inl (e, λ _ _. rw p Known.no, helped)
      go Yes p b q c r = inl (e, λ _ _. rw p Known.yes, helped)
      go Open p false q c r = inl (e, λ k _. absurd (true≢false (sym k ∙ q)), helped)
      go Open p true q true r = inl (e, λ _ k. absurd (true≢false (sym r ∙ k)), helped)
      go Open p true q false r = inr (record { goes = q; apart = r; opened = p })

  calm_or : (x : Resolution) → Calm zs (aim x.order) x (who (aim x.order) zs) ⊎ ((y : Resolution) × (who (aim x.order) zs ≡ Some y) × Waits x y)
  calm_or x = go (who (aim x.order) zs) refl
    where
      go : (w : Option Resolution) → who (aim x.order) zs ≡ w → Calm zs (aim x.order) x w ⊎ ((y : Resolution) × (who (aim x.order) zs ≡ Some y) × Waits x y)
      go None e = inl tt
      go (Some y) e = elim (waits x y (aim x.order) (who_in (aim x.order) zs y e).1) [ inl c ↦ inl c | inr r ↦ inr (y, e, r) ]

  -- an open move has a path, and waits
  pub record Ring (x : Resolution) : Type 0 where
    pub has-path : path m x zs ≡ Yes
    pub next : Resolution
    pub there : who (aim x.order) zs ≡ Some next
    pub waiting : Waits x next

  open_value : (x : Resolution) → Memᴰ x zs → is_move x.order ≡ true → x.value ≡ Open → move_succeeds m x zs ≡ Open
  open_value x i k o = sym (decides_move m x zs x.order k) ∙ (rest.fixed x i ∙ o)

  pub open_waits : (x : Resolution) → Memᴰ x zs → is_move x.order ≡ true → x.value ≡ Open → Ring x
  unfolding attack
  open_waits x i k o = go (path m x zs) refl (calm_or x)
    where
      go : (p : Tri) → path m x zs ≡ p → Calm zs (aim x.order) x (who (aim x.order) zs) ⊎ ((y : Resolution) × (who (aim x.order) zs ≡ Some y) × Waits x y) → Ring x
      go No e c = absurd (open_not_known Known.no (sym (weak_no m x zs (rw e)) ∙ open_value x i k o))
      go Open e c = absurd (open_not_known (rest.paths x i k) e)
      go Yes e (inl c) = absurd (open_not_known (move_succeeds_known m zs (aim x.order) (known (aim x.order)) rest.paths x i k refl c) (open_value x i k o))
      go Yes e (inr r) = record { has-path = e; next = r.0; there = r.1; waiting = r.2 }

  open_move : (x : Resolution) → Memᴰ x zs → is_move x.order ≡ true → x.value ≡ Open → move_succeeds m (close_one x) (close zs) ≡ Yes
  open_move x i k o =
      let r = open_waits x i k o in
      move_closed x r.next r.has-path r.there r.waiting.goes r.waiting.apart r.waiting.opened (rw (open_value x i k o))

  pub record Settled (x : Resolution) : Type 0 where
    pub is : Known (close_one x).value
    pub fits : decides m (close_one x) (close zs) x.order ≡ (close_one x).value

  pub ring_closed : (x : Resolution) → Memᴰ x zs → Settled x
  ring_closed x i = go x.value refl (is_move x.order) refl (is_support x.order) refl
    where
      below : Below (decides m x zs x.order) (decides m (close_one x) (close zs) x.order)
      below = decides_monotone m finer x.unit x.order x.value (close_one x).value x.stranded x.stranded (finer_one x)

      stay : {a b : Tri} → Below a b → {v : Tri} → Known v → a ≡ v → b ≡ v
      stay opens k e = absurd (open_not_known k (sym e))
      stay same k e = e

      kept : Known x.value → Settled x
      kept k = let e : (close_one x).value ≡ x.value = close_known (is_move x.order) k in record { is = subst Known (sym e) k; fits = stay below k (rest.fixed x i) ∙ sym e }

      go : (v : Tri) → x.value ≡ v → (b : Bool) → is_move x.order ≡ b → (c : Bool) → is_support x.order ≡ c → Settled x
      go No e b f c g = kept (subst Known (sym e) Known.no)
      go Yes e b f c g = kept (subst Known (sym e) Known.yes)
      go Open e true f c g = let y : (close_one x).value ≡ Yes = rw (f, e) in record { is = subst Known (sym y) Known.yes; fits = decides_move m (close_one x) (close zs) x.order f ∙ (open_move x i f e ∙ sym y) }
      go Open e false f true g = kept (supports_known m zs rest x i g)
      go Open e false f false g = absurd (open_not_known Known.no (sym (decides_none m x zs x.order f g) ∙ (rest.fixed x i ∙ e)))
