-- Two lists with the same units and orders, one by one in a relation; and what folds over such lists come to.
use Rattle.std.proofs.Common.{◌≡◌, ℕ, suc, Bool, true, false, cond, eqb, List, [], ◌∷◌, map, length, Some, None, Option, refl, ap, arith}
use mathlib.Core.List.{Memᴰ}
use Rattle.std.proofs.lemmas.Bool.{or_left}
use Rattle.values.specs.Fold.{gather}
use Rattle.values.specs.declared.tri.Tri.{Tri}
use Rattle.values.specs.declared.tri.Tri.TheVariants.{Open}
use Rattle.values.specs.Tri.{or_tri}
use Rattle.values.specs.Span.{sum, counted}
use Rattle.board.specs.declared.unit.Unit.{Unit}
use Rattle.board.specs.declared.order.Order.{Order}
use Rattle.board.specs.Order.{goes_to, is_move, is_support}
use Rattle.assignment.specs.declared.resolution.Resolution.{Resolution}
use Rattle.assignment.specs.Assignment.{who, entered, dislodged}
use Rattle.strength.specs.Strength.{support}
use Rattle.deciding_laws.specs.Assignments.{acts, Agrees, both_end, both_go_on}
use Rattle.deciding_laws.proofs.Information.{Below, same, below_decided, not_monotone, and_monotone, or_monotone, if_below, Within, within_exactly, sum_monotone, counted_monotone}

abbrev pub it : Unit → Order → Tri → Bool → Resolution
it u o v d = record { unit = u; order = o; value = v; stranded = d }

pub data Along (R : Resolution → Resolution → Type 0) : List Resolution → List Resolution → Type 0 where
  none : Along R [] []
  more : (u : Unit) (o : Order) {v w : Tri} {d e : Bool} {xs ys : List Resolution} → R (it u o v d) (it u o w e) → Along R xs ys → Along R (it u o v d ∷ xs) (it u o w e ∷ ys)

pub along_length : {R : Resolution → Resolution → Type 0} {xs ys : List Resolution} → Along R xs ys → length xs ≡ length ys
along_length none = refl
along_length (more u o h r) = ap suc (along_length r)

pub along_map : {R S : Resolution → Resolution → Type 0} → ((u : Unit) (o : Order) (v w : Tri) (d e : Bool) → R (it u o v d) (it u o w e) → S (it u o v d) (it u o w e)) → {xs ys : List Resolution} → Along R xs ys → Along S xs ys
along_map f none = none
along_map f (more u o {v} {w} {d} {e} h a) = more u o (f u o v w d e h) (along_map f a)

pub along_flip : {R : Resolution → Resolution → Type 0} {xs ys : List Resolution} → Along R xs ys → Along (λ x y. R y x) ys xs
along_flip none = none
along_flip (more u o h a) = more u o h (along_flip a)

pub along_refl : {R : Resolution → Resolution → Type 0} → ((x : Resolution) → R x x) → (xs : List Resolution) → Along R xs xs
along_refl f [] = none
along_refl f (x ∷ xs) = more x.unit x.order (f x) (along_refl f xs)

-- each side changed, units and orders kept
pub along_change : {R S : Resolution → Resolution → Type 0} (p q : Resolution → Tri) (s t : Resolution → Bool) →
    ((u : Unit) (o : Order) (v w : Tri) (d e : Bool) → R (it u o v d) (it u o w e) → S (it u o (p (it u o v d)) (s (it u o v d))) (it u o (q (it u o w e)) (t (it u o w e)))) →
    {xs ys : List Resolution} → Along R xs ys → Along S (map (λ x. it x.unit x.order (p x) (s x)) xs) (map (λ x. it x.unit x.order (q x) (t x)) ys)
along_change p q s t f none = none
along_change p q s t f (more u o {v} {w} {d} {e} h a) = more u o (f u o v w d e h) (along_change p q s t f a)

-- two folds whose test looks at unit and order only: a relation that each step keeps holds of what they come to
pub gather_along : {R : Resolution → Resolution → Type 0} {B : Type 0} (S : B → B → Type 0) (test : Unit → Order → Bool) (f g : Resolution → B → B) {b c : B} → S b c →
    ((u : Unit) (o : Order) (v w : Tri) (d e : Bool) → test u o ≡ true → R (it u o v d) (it u o w e) → (p q : B) → S p q → S (f (it u o v d) p) (g (it u o w e) q)) →
    {xs ys : List Resolution} → Along R xs ys → S (gather (λ x. test x.unit x.order) f b xs) (gather (λ x. test x.unit x.order) g c ys)
unfolding gather
gather_along S test f g s h none = s
gather_along {B = B} S test f g {b} {c} s h (more u o {v} {w} {d} {e} {xs} {ys} k a) = go (gather_along S test f g s h a) (test u o) refl
  where
    left : B
    left = gather (λ x. test x.unit x.order) f b xs

    right : B
    right = gather (λ x. test x.unit x.order) g c ys

    go : S left right → (t : Bool) → test u o ≡ t → S (cond t (f (it u o v d) left) left) (cond t (g (it u o w e) right) right)
    go r true q = h u o v w d e q k left right r
    go r false q = r

-- one fold: what each step keeps holds of what it comes to
pub gather_keeps : {A B : Type 0} (P : B → Type 0) (test : A → Bool) (step : A → B → B) {start : B} → P start →
    (xs : List A) → ((x : A) → Memᴰ x xs → test x ≡ true → (b : B) → P b → P (step x b)) → P (gather test step start xs)
unfolding gather
gather_keeps P test step s [] h = s
gather_keeps {B = B} P test step {start} s (x ∷ xs) h = go (gather_keeps P test step s xs (λ y i. h y (Memᴰ.tail i))) (test x) refl
  where
    rest : B
    rest = gather test step start xs

    go : P rest → (t : Bool) → test x ≡ t → P (cond t (step x rest) rest)
    go r true q = h x (Memᴰ.head refl) q rest r
    go r false q = r

-- ---- who stands where
pub data WhoAlong (R : Resolution → Resolution → Type 0) : Option Resolution → Option Resolution → Type 0 where
  nobody : WhoAlong R None None
  there : (u : Unit) (o : Order) {v w : Tri} {d e : Bool} → R (it u o v d) (it u o w e) → WhoAlong R (Some (it u o v d)) (Some (it u o w e))

pub who_along : {R : Resolution → Resolution → Type 0} (r : ℕ) {xs ys : List Resolution} → Along R xs ys → WhoAlong R (who r xs) (who r ys)
who_along {R} r a = gather_along (WhoAlong R) (λ u _. eqb r u.region) (λ x _. Some x) (λ x _. Some x) nobody (λ u o v w d e _ h _ _ _. there u o h) a

-- ---- the order of information along two lists
-- of moves and supports, what is decided stays
abbrev pub Lower : Resolution → Resolution → Type 0
Lower x y = acts x.order ≡ true → Below x.value y.value

pub goes_to-acts : (r : ℕ) (o : Order) → goes_to r o ≡ true → acts o ≡ true
goes_to-acts r o e = grind arith

pub entered_monotone : (r : ℕ) {xs ys : List Resolution} → Along Lower xs ys → Below (entered r xs) (entered r ys)
entered_monotone r a = gather_along Below (λ _ o. goes_to r o) (λ x t. or_tri x.value t) (λ x t. or_tri x.value t) same (λ u o v w d e k h p q s. or_monotone (h (goes_to-acts r o k)) s) a

-- supports that a test of unit and order lets count
pub support_monotone : (test : Unit → Order → Bool) → ((u : Unit) (o : Order) → test u o ≡ true → acts o ≡ true) → {xs ys : List Resolution} → Along Lower xs ys → Within (support (λ y. test y.unit y.order) xs) (support (λ y. test y.unit y.order) ys)
support_monotone test t a = gather_along Within test (λ y s. sum (counted y.value) s) (λ y s. sum (counted y.value) s) (within_exactly 0) (λ u o v w d e k h p q s. sum_monotone (counted_monotone (h (t u o k))) s) a

pub dislodged_monotone : (u : Unit) (o : Order) (v w : Tri) (d e : Bool) → Lower (it u o v d) (it u o w e) → {xs ys : List Resolution} → Along Lower xs ys → Below (dislodged (it u o v d) xs) (dislodged (it u o w e) ys)
dislodged_monotone u o v w d e h a = if_below (is_move o) (λ k. and_monotone (not_monotone (h (or_left (is_move o) (is_support o) k))) (entered_monotone u.region a)) (λ _. entered_monotone u.region a)

-- of moves and supports what is decided stays, and the marks are the same
pub agrees : {R : Resolution → Resolution → Type 0} → ((x y : Resolution) → R x y → Lower x y) → ((x y : Resolution) → R x y → x.stranded ≡ y.stranded) → {zs ws : List Resolution} → Along R zs ws → Agrees zs ws
agrees l s none = both_end
agrees l s (more u o h a) = both_go_on (ap (λ d. it u o Open d) (s _ _ h)) (λ k e. below_decided (l _ _ h k) e) (agrees l s a)
