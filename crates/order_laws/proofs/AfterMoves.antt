-- Units and texts in another order: the game after moves is the same, in another order.
use Rattle.std.proofs.Common.{◌≡◌, ℕ, true, not, ◌&&◌, List, map, length, None, sym, refl, ap, subst}
use mathlib.Core.List.{Memᴰ}
use Rattle.values.specs.Fold.{those, distinct}
use Rattle.values.specs.Shuffle.{Shuffled, twice}
use Rattle.values.specs.Tri.{is_yes, is_no}
use Rattle.values.proofs.Shuffled.{shuffle_eq, map_both, map_keys, only_shuffle, pick_shuffle, pick_both, pick_same, any_both, first_shuffle}
use Rattle.board.specs.Board.{Board}
use Rattle.board.specs.declared.unit.Unit.{Unit}
use Rattle.board.specs.Order.{goes_to}
use Rattle.assignment.specs.declared.resolution.Resolution.{Resolution}
use Rattle.deciding.specs.Outcome.{Ordered}
use Rattle.game.specs.declared.phase.Dislodged.{Dislodged}
use Rattle.game.specs.declared.text.Written.{Written}
use Rattle.game.specs.Texts.{addressed, text_for, order_in, ordered_one, ordered}
use Rattle.game.specs.AfterMoves.{came, moved_unit, is_dislodged, standing, origin_of, attacked_from, displaced, bounced, contested}
use Rattle.game.specs.Lawful.{places}
use Rattle.order_laws.specs.Edges.{SameBoard}
use Rattle.order_laws.specs.Deciding.{order_region}
use Rattle.order_laws.specs.Turns.{unit_region}
use Rattle.order_laws.proofs.Chains.{dislodged_same, path_same}

-- ---- texts
pub text_same : (p r : ℕ) {ws vs : List Written} → Shuffled Written ws vs → text_for p r ws ≡ text_for p r vs
text_same p r w = only_shuffle (pick_shuffle (addressed p r) (λ v. v.text) w)

pub ordered_same : {us qs : List Unit} {ws vs : List Written} → Shuffled Unit us qs → Shuffled Written ws vs → Shuffled Ordered (ordered us ws) (ordered qs vs)
ordered_same {ws = ws} {vs = vs} s w = map_both (ordered_one ws) (ordered_one vs) (λ u i. record { unit = u; order = order_in (text_same u.power u.region w i) }) s

pub ordered-apart : (us : List Unit) (ws : List Written) → distinct (places us) ≡ true → distinct (map order_region (ordered us ws)) ≡ true
ordered-apart us ws d = subst (λ q. distinct q ≡ true) (sym (map_keys unit_region order_region (ordered_one ws) (λ u. refl) us)) d

-- ---- after moves
-- one move at most came into the region of a unit that is dislodged
pub record ByOne (xs : List Resolution) : Type 0 where
  pub one : (x : Resolution) → Memᴰ x xs → is_dislodged xs x ≡ true → (y z : Resolution) → Memᴰ y xs → Memᴰ z xs →
      came x.unit.region y ≡ true → came x.unit.region z ≡ true → y ≡ z

module _ {xs ys : List Resolution} (s : Shuffled Resolution xs ys) where
  out_same : (x : Resolution) → is_dislodged xs x ≡ is_dislodged ys x
  out_same x = ap is_yes (dislodged_same x s)

  pub standing_same : Shuffled Unit (standing xs) (standing ys)
  standing_same = pick_both (λ x. not (is_dislodged xs x)) (λ x. not (is_dislodged ys x)) moved_unit (λ x. ap not (out_same x)) s

  from_same : ByOne xs → (x : Resolution) → Memᴰ x xs → is_dislodged xs x ≡ true → attacked_from x.unit.region xs ≡ attacked_from x.unit.region ys
  from_same o x i e = first_shuffle (came x.unit.region) origin_of None s (λ y z j k p q. ap origin_of (o.one x i e y z j k p q))

  pub displaced_same : ByOne xs → Shuffled Dislodged (displaced xs) (displaced ys)
  displaced_same o =
      twice (shuffle_eq (pick_same (is_dislodged xs) (λ x. record { unit = x.unit; from = attacked_from x.unit.region xs }) (λ x. record { unit = x.unit; from = attacked_from x.unit.region ys }) xs (λ x i e j. record { unit = x.unit; from = from_same o x i e j })))
      (pick_both (is_dislodged xs) (is_dislodged ys) (λ x. record { unit = x.unit; from = attacked_from x.unit.region ys }) out_same s)

pub contested_same : (m n : Board) (b : SameBoard m n) {xs ys : List Resolution} → Shuffled Resolution xs ys → contested m xs ≡ contested n ys
contested_same m n b {xs} {ys} s =
    λ i. those (length (b.regions i)) (λ r. any_both (bounced m xs r) (bounced n ys r) (λ x j. goes_to r x.order && (is_no x.value && is_yes (path_same m n b s x j))) s i)
