-- Strengths, and what the others decide of an order, are the same for orders in another order.
use Rattle.std.proofs.Common.{◌≡◌, ℕ, ◌+◌, Bool, true, cond, not, ◌&&◌, eqb, List, map, Some, None, Option, refl, ap, ◌∙◌, arith}
use Rattle.values.specs.Fold.{gather, distinct}
use Rattle.values.specs.Shuffle.{Shuffled}
use Rattle.values.specs.declared.tri.Tri.{Tri}
use Rattle.values.specs.declared.tri.Tri.TheVariants.{No, Yes}
use Rattle.values.specs.declared.span.Span.{Span}
use Rattle.values.specs.Tri.{not_tri, and_tri, or_tri}
use Rattle.values.specs.Span.{exactly, sum, greater, either, counted}
use Rattle.values.proofs.Shuffled.{gather_shuffle, find_shuffle}
use Rattle.board.specs.Board.{Board}
use Rattle.board.specs.declared.order.Order.{Order}
use Rattle.board.specs.declared.order.Order.TheVariants.{Hold, Move, SupportHold, SupportMove, Convoy}
use Rattle.board.specs.Order.{is_move, aim, supports_hold}
use Rattle.assignment.specs.declared.resolution.Resolution.{Resolution}
use Rattle.assignment.specs.Assignment.{who}
use Rattle.strength.specs.Strength.{support, backs, head_to_head, vacates, full, attack_on, attack, prevent_of, prevent, to_beat}
use Rattle.strength.specs.Decide.{rival, beats_rivals, move_succeeds, cuts, cut, support_stands, decides}
use Rattle.order_laws.specs.Edges.{SameBoard}
use Rattle.order_laws.specs.Deciding.{resolution_region}
use Rattle.order_laws.proofs.Chains.{or_exchange, dislodged_same, path_same}

sum_exchange : (a b c : Span) → sum a (sum b c) ≡ sum b (sum a c)
sum_exchange a b c =
    let p : a.least + (b.least + c.least) ≡ b.least + (a.least + c.least) = omega arith in
    let q : a.greatest + (b.greatest + c.greatest) ≡ b.greatest + (a.greatest + c.greatest) = omega arith in
    λ i. record { least = p i; greatest = q i }

and_exchange : (a b c : Tri) → and_tri a (and_tri b c) ≡ and_tri b (and_tri a c)
and_exchange a b c = grind arith

support_same : (test : Resolution → Bool) {xs ys : List Resolution} → Shuffled Resolution xs ys → support test xs ≡ support test ys
support_same test s = gather_shuffle test (λ y rest. sum (counted y.value) rest) (exactly 0) (λ x y c. sum_exchange (counted x.value) (counted y.value) c) s

who_same : (r : ℕ) {xs ys : List Resolution} → Shuffled Resolution xs ys → distinct (map resolution_region xs) ≡ true → who r xs ≡ who r ys
who_same r s d = find_shuffle resolution_region r s d

module _ {xs ys : List Resolution} (s : Shuffled Resolution xs ys) where
  full_same : (x : Resolution) → full x xs ≡ full x ys
  full_same x = ap (sum (exactly 1)) (support_same (backs x) s)

  attack_on_same : (x : Resolution) (w : Option Resolution) → attack_on x xs w ≡ attack_on x ys w
  attack_on_same x None = full_same x
  attack_on_same x (Some y) = λ i. either (vacates x y) (full_same x i) (cond (eqb x.unit.power y.unit.power) (exactly 0) (sum (exactly 1) (support_same (λ z. backs x z && not (eqb y.unit.power z.unit.power)) s i)))

  prevent_of_same : (x : Resolution) (w : Option Resolution) → prevent_of x xs w ≡ prevent_of x ys w
  prevent_of_same x None = full_same x
  prevent_of_same x (Some y) = ap (λ h. cond (head_to_head x y) (either y.value (exactly 0) h) h) (full_same x)

  to_beat_same : (x : Resolution) (w : Option Resolution) → to_beat x xs w ≡ to_beat x ys w
  to_beat_same x None = refl
  to_beat_same x (Some y) = λ i. cond (head_to_head x y) (full_same y i) (cond (is_move y.order) (either y.value (exactly 0) (exactly 1)) (sum (exactly 1) (support_same (λ z. supports_hold y.unit.region z.order) s i)))

module _ (m n : Board) (b : SameBoard m n) {xs ys : List Resolution} (s : Shuffled Resolution xs ys) (d : distinct (map resolution_region xs) ≡ true) where
  attack_same : (x : Resolution) → attack m x xs ≡ attack n x ys
  unfolding attack
  attack_same x =
      let q = ap (attack_on x xs) (who_same (aim x.order) s d) ∙ attack_on_same s x (who (aim x.order) ys) in
      λ i. either (path_same m n b s x i) (q i) (exactly 0)

  prevent_same : (x : Resolution) → prevent m x xs ≡ prevent n x ys
  unfolding prevent
  prevent_same x =
      let q = ap (prevent_of x xs) (who_same (aim x.order) s d) ∙ prevent_of_same s x (who (aim x.order) ys) in
      λ i. either (path_same m n b s x i) (q i) (exactly 0)

  beats_same : (x : Resolution) → beats_rivals m (attack m x xs) x xs xs ≡ beats_rivals n (attack n x ys) x ys ys
  beats_same x =
      (λ i. gather (rival x) (λ y rest. and_tri (greater (attack_same x i) (prevent_same y i)) rest) Yes xs) ∙
      gather_shuffle (rival x) (λ y rest. and_tri (greater (attack n x ys) (prevent n y ys)) rest) Yes
      (λ y z c. and_exchange (greater (attack n x ys) (prevent n y ys)) (greater (attack n x ys) (prevent n z ys)) c) s

  cut_same : (x : Resolution) → cut m x xs xs ≡ cut n x ys ys
  cut_same x =
      (λ i. gather (cuts x) (λ y rest. or_tri (greater (attack_same y i) (exactly 0)) rest) No xs) ∙
      gather_shuffle (cuts x) (λ y rest. or_tri (greater (attack n y ys) (exactly 0)) rest) No
      (λ y z c. or_exchange (greater (attack n y ys) (exactly 0)) (greater (attack n z ys) (exactly 0)) c) s

  move_succeeds_same : (x : Resolution) → move_succeeds m x xs ≡ move_succeeds n x ys
  move_succeeds_same x =
      let q = ap (to_beat x xs) (who_same (aim x.order) s d) ∙ to_beat_same s x (who (aim x.order) ys) in
      λ i. and_tri (greater (attack_same x i) (q i)) (beats_same x i)

  support_stands_same : (x : Resolution) → support_stands m x xs ≡ support_stands n x ys
  support_stands_same x = λ i. not_tri (or_tri (cut_same x i) (dislodged_same x s i))

  pub decides_same : (x : Resolution) (o : Order) → decides m x xs o ≡ decides n x ys o
  decides_same x Hold = refl
  decides_same x (Move to convoyed) = move_succeeds_same x
  decides_same x (SupportHold at) = support_stands_same x
  decides_same x (SupportMove from to) = support_stands_same x
  decides_same x (Convoy from to) = refl
