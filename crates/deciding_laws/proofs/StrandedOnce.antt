-- After the armies whose path was open were stranded, rounds decide at least what they did before, and every path.
use Rattle.std.proofs.Common.{◌≡◌, ℕ, zero, suc, Bool, true, false, not, ◌&&◌, ◌||◌, List, [], ◌∷◌, map, sym, refl, ap, ◌∙◌, subst, arith}
use mathlib.Core.List.{Memᴰ}
use Rattle.std.proofs.lemmas.Bool.{true≢false, and_parts, or_right}
use Rattle.values.specs.declared.tri.Tri.{Tri}
use Rattle.values.specs.declared.tri.Tri.TheVariants.{No, Open, Yes}
use Rattle.values.specs.Tri.{is_open}
use Rattle.board.specs.declared.unit.Unit.{Unit}
use Rattle.board.specs.declared.order.Order.{Order}
use Rattle.board.specs.Board.{Board}
use Rattle.board.specs.Order.{is_move, is_convoyed}
use Rattle.assignment.specs.declared.resolution.Resolution.{Resolution}
use Rattle.paths.specs.Paths.{path}
use Rattle.strength.specs.Decide.{decides}
use Rattle.deciding.specs.Rounds.{again, round, rounds}
use Rattle.deciding.specs.Outcome.{strand_one, Ordered, fresh}
use Rattle.deciding_laws.proofs.Information.{Below, opens, same}
use Rattle.deciding_laws.proofs.Along.{it, Along, none, more, along_map, along_refl, Lower}
use Rattle.deciding_laws.proofs.Members.{along_each}
use Rattle.deciding_laws.proofs.RoundMonotone.{path_monotone, Under, under_lower, round_monotone}
use Rattle.deciding_laws.proofs.Forced.{Towards, Keeps, least_step, towards_lower, SameMark}
use Rattle.deciding_laws.proofs.Exact.{Known, if_known}

-- x is open and not stranded; S relates the marks
pub record From (S : Unit → Order → Bool → Bool → Type 0) (x y : Resolution) : Type 0 where
  pub opened : x.value ≡ Open
  pub ashore : x.stranded ≡ false
  pub stranded : S x.unit x.order x.stranded y.stranded

pub from_round : {S : Unit → Order → Bool → Bool → Type 0} (m : Board) (others : List Resolution) {xs ys : List Resolution} → Along (From S) xs ys → Along (From S) xs (map (again m others) ys)
from_round m others none = none
from_round m others (more u o h a) = more u o (record { opened = h.opened; ashore = h.ashore; stranded = h.stranded }) (from_round m others a)

pub from_rounds : {S : Unit → Order → Bool → Bool → Type 0} (m : Board) (n : ℕ) {xs ys : List Resolution} → Along (From S) xs ys → Along (From S) xs (rounds n m ys)
unfolding rounds
from_rounds m zero a = a
from_rounds m (suc n) {xs} {ys} a = from_rounds m n (from_round m ys a)

pub from_fresh : (m : Board) (os : List Ordered) → Along (From SameMark) (fresh m os) (fresh m os)
from_fresh m [] = none
from_fresh m (o ∷ os) = more _ _ (record { opened = refl; ashore = refl; stranded = refl }) (from_fresh m os)

-- who is stranded: those that were, and those whose path is left open
abbrev pub Strand : Board → List Resolution → Unit → Order → Bool → Bool → Type 0
Strand m others u o d e = e ≡ (d || (is_move o && is_open (path m (it u o Open d) others)))

pub from_strand : (m : Board) (others : List Resolution) {xs ys : List Resolution} → Along (From SameMark) xs ys → Along (From (Strand m others)) xs (map (strand_one m others) ys)
from_strand m others none = none
from_strand m others (more u o {v} {w} {d} {e} h a) = more u o (record { opened = h.opened; ashore = h.ashore; stranded = ap (λ z. z || (is_move o && is_open (path m (it u o w z) others))) (sym h.stranded) }) (from_strand m others a)

pub from_under : {xs ys : List Resolution} → Along (From SameMark) xs ys → Along Under xs ys
from_under a = along_map (λ u o v w d e h. record { value = subst (λ z. Below z w) (sym h.opened) opens; stranded = h.stranded }) a

pub from_towards : {S : Unit → Order → Bool → Bool → Type 0} (m : Board) (others : List Resolution) {xs ys : List Resolution} → ((y : Resolution) → Memᴰ y ys → decides m y others y.order ≡ y.value) → Along (From S) xs ys → Along (Towards m others S) xs ys
from_towards m others f none = none
from_towards m others f (more u o {v} {w} {d} {e} h a) =
    more u o (record { value = λ _. subst (λ z. Below z w) (sym h.opened) opens; fits = λ _. f _ (Memᴰ.head refl); stranded = h.stranded }) (from_towards m others (λ y i. f y (Memᴰ.tail i)) a)

open_is : (t : Tri) → is_open t ≡ true → t ≡ Open
open_is t e = grind arith

below_open : {a b : Tri} → Below a b → b ≡ Open → a ≡ Open
below_open opens e = refl
below_open same e = e

-- before the end of the first run, paths are as open as at its end
pub keeps_strand : (m : Board) {xs zs ys : List Resolution} → Along Lower xs zs → Along Lower xs ys → Keeps m (Strand m zs) xs ys
keeps_strand m {xs} {zs} {ys} a b u o v w d e h = go (is_move o && is_open (path m (it u o Open d) zs)) refl h
  where
    go : (t : Bool) → (is_move o && is_open (path m (it u o Open d) zs)) ≡ t → e ≡ (d || t) → Below (path m (it u o v d) xs) (path m (it u o w e) ys)
    go true f k = subst (λ p. Below p (path m (it u o w e) ys)) (sym (below_open (path_monotone m u o v Open d a) (open_is _ (and_parts (is_move o) (is_open (path m (it u o Open d) zs)) f).1))) opens
    go false f k = subst (λ z. Below (path m (it u o v d) xs) (path m (it u o w z) ys)) (plain d ∙ sym k) (path_monotone m u o v w d b)
      where
        plain : (d : Bool) → d ≡ (d || false)
        plain true = refl
        plain false = refl

-- the second run decides at least what the first did
pub least_strand : (m : Board) (n : ℕ) {xs zs ys : List Resolution} → round m zs ≡ zs → Along Under xs zs → Along (Towards m ys (Strand m zs)) xs ys → Along (Towards m ys (Strand m zs)) (rounds n m xs) ys
unfolding rounds
least_strand m zero e a b = b
least_strand m (suc n) {xs} {zs} {ys} e a b =
    least_strand m n e (subst (λ q. Along Under (round m xs) q) e (round_monotone m a)) (least_step m (Strand m zs) xs ys (keeps_strand m (under_lower a) (towards_lower b)) b)

pub not_open_known : (t : Tri) → is_open t ≡ false → Known t
not_open_known No e = Known.no
not_open_known Open e = absurd (true≢false e)
not_open_known Yes e = Known.yes

known_up : {a b : Tri} → Below a b → Known a → Known b
known_up same k = k
known_up (opens {b = b}) k = elim k [ ]

-- after the second run every path is decided: it was, or its army is stranded
pub paths_strand : (m : Board) {zs ys : List Resolution} → Along (Towards m ys (Strand m zs)) zs ys → (y : Resolution) → Memᴰ y ys → is_move y.order ≡ true → Known (path m y ys)
paths_strand m {zs} {ys} a = along_each (λ y. is_move y.order ≡ true → Known (path m y ys)) (λ u o v w d e h. known u o w d e _ refl h.stranded) a
  where
    known : (u : Unit) (o : Order) (w : Tri) (d e : Bool) (t : Bool) → (is_move o && is_open (path m (it u o Open d) zs)) ≡ t → Strand m zs u o d e → is_move o ≡ true → Known (path m (it u o w e) ys)
    known u o w d e true f h l = subst (λ z. Known (path m (it u o w z) ys)) (sym (h ∙ (ap (λ t. d || t) f ∙ or_right d true refl))) (if_known (not (is_convoyed o)) (λ _. Known.yes) (λ _. Known.no))
    known u o w d e false f h l =
        known_up (keeps_strand m (along_refl (λ _ _. same) zs) (towards_lower a) u o Open w d e h) (not_open_known (path m (it u o Open d) zs) (sym (ap (λ b. b && is_open (path m (it u o Open d) zs)) l) ∙ f))
