-- A round that begins with more decided ends with more decided: each function of the rules keeps the order of information.
use Rattle.std.proofs.Common.{◌≡◌, ℕ, Bool, true, cond, not, ◌&&◌, eqb, ◌⊎◌, List, Option, subst, arith}
use Rattle.std.proofs.lemmas.Bool.{and_parts, or_left}
use Rattle.values.specs.declared.tri.Tri.{Tri}
use Rattle.values.specs.declared.tri.Tri.TheVariants.{No, Open, Yes}
use Rattle.values.specs.Tri.{and_tri, or_tri, is_yes, is_no}
use Rattle.values.specs.declared.span.Span.{Span}
use Rattle.values.specs.Span.{exactly, greater}
use Rattle.board.specs.declared.unit.Unit.{Unit}
use Rattle.board.specs.declared.order.Order.{Order}
use Rattle.board.specs.declared.order.Order.TheVariants.{Hold, Move, SupportHold, SupportMove, Convoy}
use Rattle.board.specs.Board.{Board}
use Rattle.board.specs.Order.{goes_to, is_move, is_support, is_convoyed, aim, supports_move, supports_hold}
use Rattle.assignment.specs.declared.resolution.Resolution.{Resolution}
use Rattle.assignment.specs.Assignment.{dislodged}
use Rattle.paths.specs.Paths.{chain, surely_stays, may_stay, path}
use Rattle.strength.specs.Strength.{support_for, support_but, head_to_head, attack_on, attack, prevent_of, prevent, to_beat}
use Rattle.strength.specs.Decide.{beats_rivals, move_succeeds, cut, support_stands, decides}
use Rattle.deciding.specs.Rounds.{round}
use Rattle.deciding_laws.specs.Assignments.{acts}
use Rattle.deciding_laws.proofs.Information.{Below, same, below_of, below_is, not_monotone, and_monotone, or_monotone, if_below, Within, within_exactly, sum_monotone, if_within, greater_monotone, either_monotone}
use Rattle.deciding_laws.proofs.Along.{it, Along, along_map, along_flip, along_change, gather_along, WhoAlong, nobody, there, who_along, Lower, goes_to-acts, support_monotone, dislodged_monotone}
use Rattle.deciding_laws.proofs.Chains.{chain_monotone}

no_stays : (a b : Tri) → (a ≡ Open) ⊎ (a ≡ b) → is_no a ≡ true → is_no b ≡ true
no_stays a b p h = grind arith

not_yes_before : (a b : Tri) → (a ≡ Open) ⊎ (a ≡ b) → not (is_yes b) ≡ true → not (is_yes a) ≡ true
not_yes_before a b p h = grind arith

no_not_yes_before : (a b : Tri) → (a ≡ Open) ⊎ (a ≡ b) → is_no b ≡ true → not (is_yes a) ≡ true
no_not_yes_before a b p h = grind arith

three : (a b c d : Bool) → (a ≡ true → c ≡ true) → (d ≡ true → b ≡ true) → (c ≡ true → b ≡ true) → (cond a Yes (cond b Open No) ≡ Open) ⊎ (cond a Yes (cond b Open No) ≡ cond c Yes (cond d Open No))
three a b c d i j k = grind arith

-- with the same armies stranded
pub path_monotone : (m : Board) (u : Unit) (o : Order) (v w : Tri) (d : Bool) {xs ys : List Resolution} → Along Lower xs ys → Below (path m (it u o v d) xs) (path m (it u o w d) ys)
path_monotone m u o v w d {xs} {ys} a =
    if_below (not (is_convoyed o)) (λ _. same) (λ _. if_below d (λ _. same) (λ _. below_of (three
    (chain m (surely_stays xs) f t xs) (chain m (may_stay xs) f t xs)
    (chain m (surely_stays ys) f t ys) (chain m (may_stay ys) f t ys)
    (chain_monotone m (surely_stays xs) (surely_stays ys) f t (along_map (λ u o v w d e h. no_stays (dislodged (it u o v d) xs) (dislodged (it u o w e) ys) (below_is (dislodged_monotone u o v w d e h a))) a))
    (chain_monotone m (may_stay ys) (may_stay xs) f t (along_flip (along_map (λ u o v w d e h. not_yes_before (dislodged (it u o v d) xs) (dislodged (it u o w e) ys) (below_is (dislodged_monotone u o v w d e h a))) a)))
    (chain_monotone m (surely_stays ys) (may_stay xs) f t (along_flip (along_map (λ u o v w d e h. no_not_yes_before (dislodged (it u o v d) xs) (dislodged (it u o w e) ys) (below_is (dislodged_monotone u o v w d e h a))) a))))))
  where
    f : ℕ
    f = u.region

    t : ℕ
    t = aim o

pub supports_move-acts : (f t : ℕ) (o : Order) → supports_move f t o ≡ true → acts o ≡ true
supports_move-acts f t o e = grind arith

pub supports_hold-acts : (r : ℕ) (o : Order) → supports_hold r o ≡ true → acts o ≡ true
supports_hold-acts r o e = grind arith

-- decided values stay, and decided paths
pub record Finer (m : Board) (xs ys : List Resolution) (x y : Resolution) : Type 0 where
  pub value : Lower x y
  pub paths : Below (path m x xs) (path m y ys)

module _ {xs ys : List Resolution} (a : Along Lower xs ys) where
  pub support_for_monotone : (u : Unit) (o : Order) (v w : Tri) (d e : Bool) → Within (support_for (it u o v d) xs) (support_for (it u o w e) ys)
  support_for_monotone u o v w d e = support_monotone (λ _ z. supports_move u.region (aim o) z) (λ _ z. supports_move-acts u.region (aim o) z) a

  support_but_monotone : (p : ℕ) (u : Unit) (o : Order) (v w : Tri) (d e : Bool) → Within (support_but p (it u o v d) xs) (support_but p (it u o w e) ys)
  support_but_monotone p u o v w d e = support_monotone (λ y z. supports_move u.region (aim o) z && not (eqb p y.power)) (λ y z k. supports_move-acts u.region (aim o) z (and_parts (supports_move u.region (aim o) z) (not (eqb p y.power)) k).0) a

  attack_on_monotone : (u : Unit) (o : Order) (v w : Tri) (d e : Bool) {p q : Option Resolution} → WhoAlong Lower p q → Within (attack_on (it u o v d) xs p) (attack_on (it u o w e) ys q)
  attack_on_monotone u o v w d e nobody = sum_monotone (within_exactly 1) (support_for_monotone u o v w d e)
  attack_on_monotone u o v w d e (there u' o' {v = v'} {w = w'} {d = d'} {e = e'} h) =
      either_monotone (if_below (is_move o' && not (head_to_head (it u o v d) (it u' o' v' d'))) (λ k. h (or_left (is_move o') (is_support o') (and_parts (is_move o') (not (head_to_head (it u o v d) (it u' o' v' d'))) k).0)) (λ _. same))
      (sum_monotone (within_exactly 1) (support_for_monotone u o v w d e))
      (if_within (eqb u.power u'.power) (λ _. within_exactly 0) (λ _. sum_monotone (within_exactly 1) (support_but_monotone u'.power u o v w d e)))

  prevent_of_monotone : (u : Unit) (o : Order) (v w : Tri) (d e : Bool) {p q : Option Resolution} → WhoAlong Lower p q → Within (prevent_of (it u o v d) xs p) (prevent_of (it u o w e) ys q)
  prevent_of_monotone u o v w d e nobody = sum_monotone (within_exactly 1) (support_for_monotone u o v w d e)
  prevent_of_monotone u o v w d e (there u' o' {v = v'} {w = w'} {d = d'} {e = e'} h) =
      if_within (goes_to u.region o' && goes_to u'.region o && not (is_convoyed o) && not (is_convoyed o'))
      (λ k. either_monotone (h (goes_to-acts u.region o' (head_to_head-goes (goes_to u.region o') (goes_to u'.region o) (not (is_convoyed o)) (not (is_convoyed o')) k))) (within_exactly 0) (sum_monotone (within_exactly 1) (support_for_monotone u o v w d e)))
      (λ _. sum_monotone (within_exactly 1) (support_for_monotone u o v w d e))
    where
      head_to_head-goes : (a b c d : Bool) → (a && b && c && d) ≡ true → a ≡ true
      head_to_head-goes a b c d k = grind arith

  to_beat_monotone : (u : Unit) (o : Order) (v w : Tri) (d e : Bool) {p q : Option Resolution} → WhoAlong Lower p q → Within (to_beat (it u o v d) xs p) (to_beat (it u o w e) ys q)
  to_beat_monotone u o v w d e nobody = within_exactly 0
  to_beat_monotone u o v w d e (there u' o' {v = v'} {w = w'} {d = d'} {e = e'} h) =
      if_within (head_to_head (it u o v d) (it u' o' v' d')) (λ _. sum_monotone (within_exactly 1) (support_for_monotone u' o' v' w' d' e'))
      (λ _. if_within (is_move o') (λ k. either_monotone (h (or_left (is_move o') (is_support o') k)) (within_exactly 0) (within_exactly 1))
      (λ _. sum_monotone (within_exactly 1) (support_monotone (λ _ z. supports_hold u'.region z) (λ _ z. supports_hold-acts u'.region z) a)))

pub values : {m : Board} {xs ys zs ws : List Resolution} → Along (Finer m xs ys) zs ws → Along Lower zs ws
values a = along_map (λ u o v w d e h. h.value) a

module _ (m : Board) {xs ys : List Resolution} (a : Along (Finer m xs ys) xs ys) where
  pub attack_monotone : (u : Unit) (o : Order) (v w : Tri) (d e : Bool) → Finer m xs ys (it u o v d) (it u o w e) → Within (attack m (it u o v d) xs) (attack m (it u o w e) ys)
  unfolding attack
  attack_monotone u o v w d e h = either_monotone h.paths (attack_on_monotone (values a) u o v w d e (who_along (aim o) (values a))) (within_exactly 0)

  pub prevent_monotone : (u : Unit) (o : Order) (v w : Tri) (d e : Bool) → Finer m xs ys (it u o v d) (it u o w e) → Within (prevent m (it u o v d) xs) (prevent m (it u o w e) ys)
  unfolding prevent
  prevent_monotone u o v w d e h = either_monotone h.paths (prevent_of_monotone (values a) u o v w d e (who_along (aim o) (values a))) (within_exactly 0)

  beats_rivals_monotone : (u : Unit) (o : Order) (v w : Tri) (d e : Bool) {s t : Span} → Within s t → Below (beats_rivals m s (it u o v d) xs xs) (beats_rivals m t (it u o w e) ys ys)
  beats_rivals_monotone u o v w d e {s} {t} k =
      gather_along Below (λ u' o'. goes_to (aim o) o' && not (eqb u.region u'.region)) (λ y r. and_tri (greater s (prevent m y xs)) r) (λ y r. and_tri (greater t (prevent m y ys)) r) same
      (λ u' o' v' w' d' e' _ h p q r. and_monotone (greater_monotone k (prevent_monotone u' o' v' w' d' e' h)) r) a

  move_succeeds_monotone : (u : Unit) (o : Order) (v w : Tri) (d e : Bool) → Finer m xs ys (it u o v d) (it u o w e) → Below (move_succeeds m (it u o v d) xs) (move_succeeds m (it u o w e) ys)
  move_succeeds_monotone u o v w d e h =
      let s = attack_monotone u o v w d e h in
      and_monotone (greater_monotone s (to_beat_monotone (values a) u o v w d e (who_along (aim o) (values a)))) (beats_rivals_monotone u o v w d e s)

  cut_monotone : (u : Unit) (o : Order) (v w : Tri) (d e : Bool) → Below (cut m (it u o v d) xs xs) (cut m (it u o w e) ys ys)
  cut_monotone u o v w d e =
      gather_along Below (λ u' o'. goes_to u.region o' && not (eqb u.power u'.power) && not (eqb u'.region (aim o))) (λ y r. or_tri (greater (attack m y xs) (exactly 0)) r) (λ y r. or_tri (greater (attack m y ys) (exactly 0)) r) same
      (λ u' o' v' w' d' e' _ h p q r. or_monotone (greater_monotone (attack_monotone u' o' v' w' d' e' h) (within_exactly 0)) r) a

  support_stands_monotone : (u : Unit) (o : Order) (v w : Tri) (d e : Bool) → Finer m xs ys (it u o v d) (it u o w e) → Below (support_stands m (it u o v d) xs) (support_stands m (it u o w e) ys)
  support_stands_monotone u o v w d e h = not_monotone (or_monotone (cut_monotone u o v w d e) (dislodged_monotone u o v w d e h.value (values a)))

  pub decides_monotone : (u : Unit) (o : Order) (v w : Tri) (d e : Bool) → Finer m xs ys (it u o v d) (it u o w e) → Below (decides m (it u o v d) xs o) (decides m (it u o w e) ys o)
  decides_monotone u Hold v w d e h = same
  decides_monotone u (Move t b) v w d e h = move_succeeds_monotone u (Move t b) v w d e h
  decides_monotone u (SupportHold q) v w d e h = support_stands_monotone u (SupportHold q) v w d e h
  decides_monotone u (SupportMove f t) v w d e h = support_stands_monotone u (SupportMove f t) v w d e h
  decides_monotone u (Convoy f t) v w d e h = same

-- of all orders, what is decided stays; and the same are stranded
pub record Under (x y : Resolution) : Type 0 where
  pub value : Below x.value y.value
  pub stranded : x.stranded ≡ y.stranded

-- with the same armies stranded, paths are as decided
finer_one : (m : Board) {xs ys : List Resolution} → Along Lower xs ys → (u : Unit) (o : Order) (v w : Tri) (d e : Bool) → Under (it u o v d) (it u o w e) → Finer m xs ys (it u o v d) (it u o w e)
finer_one m {xs} {ys} a u o v w d e h = record { value = λ _. h.value; paths = subst (λ z. Below (path m (it u o v d) xs) (path m (it u o w z) ys)) h.stranded (path_monotone m u o v w d a) }

pub finer_same : (m : Board) {xs ys : List Resolution} → Along Lower xs ys → {zs ws : List Resolution} → Along Under zs ws → Along (Finer m xs ys) zs ws
finer_same m a = along_map (finer_one m a)

pub under_lower : {xs ys : List Resolution} → Along Under xs ys → Along Lower xs ys
under_lower a = along_map (λ u o v w d e h _. h.value) a

pub round_monotone : (m : Board) {xs ys : List Resolution} → Along Under xs ys → Along Under (round m xs) (round m ys)
round_monotone m {xs} {ys} a =
    let f = finer_same m (under_lower a) a in
    along_change (λ x. decides m x xs x.order) (λ y. decides m y ys y.order) (λ x. x.stranded) (λ y. y.stranded)
    (λ u o v w d e h. record { value = decides_monotone m f u o v w d e (finer_one m (under_lower a) u o v w d e h); stranded = h.stranded }) a
