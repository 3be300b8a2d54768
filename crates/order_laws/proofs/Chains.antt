-- Paths over water are the same on boards drawn alike, for orders in another order.
use Rattle.std.proofs.Common.{◌≡◌, ℕ, zero, suc, Bool, cond, not, ◌&&◌, List, [], ◌∷◌, length, ap, subst, arith}
use Rattle.values.specs.Fold.{gather}
use Rattle.values.specs.Shuffle.{Shuffled, twice}
use Rattle.values.specs.declared.tri.Tri.{Tri}
use Rattle.values.specs.declared.tri.Tri.TheVariants.{No, Open, Yes}
use Rattle.values.specs.Tri.{not_tri, and_tri, or_tri, is_yes, is_no}
use Rattle.values.proofs.Shuffled.{shuffle_refl, shuffle_eq, length_shuffle, gather_shuffle, any_both, pick_onto}
use Rattle.geography.specs.Links.{linked}
use Rattle.board.specs.Board.{Board}
use Rattle.board.specs.Order.{goes_to, is_move, is_convoyed, aim, convoys}
use Rattle.assignment.specs.declared.resolution.Resolution.{Resolution}
use Rattle.assignment.specs.Assignment.{entered, dislodged}
use Rattle.paths.specs.Paths.{touches, carrier, reached, flood, lands, chain, surely_stays, may_stay, path}
use Rattle.order_laws.specs.Edges.{SameBoard}

pub or_exchange : (a b c : Tri) → or_tri a (or_tri b c) ≡ or_tri b (or_tri a c)
or_exchange a b c = grind arith

pub entered_same : (r : ℕ) {xs ys : List Resolution} → Shuffled Resolution xs ys → entered r xs ≡ entered r ys
entered_same r s = gather_shuffle (λ x. goes_to r x.order) (λ x rest. or_tri x.value rest) No (λ x y c. or_exchange x.value y.value c) s

pub dislodged_same : (x : Resolution) {xs ys : List Resolution} → Shuffled Resolution xs ys → dislodged x xs ≡ dislodged x ys
dislodged_same x s = ap (λ h. cond (is_move x.order) (and_tri (not_tri x.value) h) h) (entered_same x.unit.region s)

module _ (m n : Board) (b : SameBoard m n) where
  touches_same : (r : ℕ) {ps qs : List ℕ} → Shuffled ℕ ps qs → touches m r ps ≡ touches n r qs
  touches_same r s = any_both (λ q. linked r q m.sail) (λ q. linked r q n.sail) (λ q. b.sail r q) s

  module _ (c k : Resolution → Bool) (e : (x : Resolution) → c x ≡ k x) (f t : ℕ) where
    carrier_same : {ps qs : List ℕ} → Shuffled ℕ ps qs → (x : Resolution) → carrier m c f t ps x ≡ carrier n k f t qs x
    carrier_same s x = λ i. (convoys f t x.order && e x i) && touches_same x.unit.region s i

    reached_same : {ps qs : List ℕ} {xs ys : List Resolution} → Shuffled ℕ ps qs → Shuffled Resolution xs ys → Shuffled ℕ (reached m c f t ps xs) (reached n k f t qs ys)
    reached_same {ps} {qs} {xs} s w =
        twice (shuffle_eq (λ i. gather (λ x. carrier_same s x i) (λ x rest. x.unit.region ∷ rest) ps xs)) (pick_onto (carrier n k f t qs) (λ x. x.unit.region) s w)

    flood_same : (j : ℕ) {ps qs : List ℕ} {xs ys : List Resolution} → Shuffled ℕ ps qs → Shuffled Resolution xs ys → Shuffled ℕ (flood j m c f t xs ps) (flood j n k f t ys qs)
    unfolding flood
    flood_same zero s w = s
    flood_same (suc j) s w = flood_same j (reached_same s w) w

    lands_same : {ps qs : List ℕ} {xs ys : List Resolution} → Shuffled ℕ ps qs → Shuffled Resolution xs ys → lands m c f t ps xs ≡ lands n k f t qs ys
    lands_same {ps} {qs} s w =
        any_both (λ x. carrier m c f t ps x && linked x.unit.region t m.sail) (λ x. carrier n k f t qs x && linked x.unit.region t n.sail) (λ x i. carrier_same s x i && b.sail x.unit.region t i) w

    chain_same : {xs ys : List Resolution} → Shuffled Resolution xs ys → chain m c f t xs ≡ chain n k f t ys
    chain_same {xs} {ys} w =
        lands_same (subst (λ j. Shuffled ℕ (flood (length xs) m c f t xs (f ∷ [])) (flood j n k f t ys (f ∷ []))) (length_shuffle w) (flood_same (length xs) (shuffle_refl (f ∷ [])) w)) w

  pub path_same : {xs ys : List Resolution} → Shuffled Resolution xs ys → (x : Resolution) → path m x xs ≡ path n x ys
  path_same {xs} {ys} s x =
      let f = x.unit.region in
      let t = aim x.order in
      let p = chain_same (surely_stays xs) (surely_stays ys) (λ y. ap is_no (dislodged_same y s)) f t s in
      let q = chain_same (may_stay xs) (may_stay ys) (λ y. ap (λ z. not (is_yes z)) (dislodged_same y s)) f t s in
      λ i. cond (not (is_convoyed x.order)) Yes (cond x.stranded No (cond (p i) Yes (cond (q i) Open No)))
