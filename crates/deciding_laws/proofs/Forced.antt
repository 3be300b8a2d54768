-- What rounds decide is so in every consistent assignment, as each round stays below it.
use Rattle.std.proofs.Common.{◌≡◌, ℕ, zero, suc, ◌+◌, Bool, true, List, [], ◌∷◌, map, length, refl, subst}
use mathlib.Core.List.{Memᴰ}
use Rattle.values.specs.declared.tri.Tri.{Tri}
use Rattle.board.specs.declared.unit.Unit.{Unit}
use Rattle.board.specs.declared.order.Order.{Order}
use Rattle.board.specs.Board.{Board}
use Rattle.assignment.specs.declared.resolution.Resolution.{Resolution}
use Rattle.paths.specs.Paths.{path}
use Rattle.strength.specs.Decide.{decides}
use Rattle.deciding.specs.Rounds.{again, round, rounds, decided}
use Rattle.deciding.specs.Outcome.{strand, fresh}
use Rattle.deciding_laws.specs.Answers.{start}
use Rattle.deciding_laws.specs.Assignments.{acts, reopened, Consistent, Agrees}
use Rattle.deciding_laws.specs.Forced.{Forced, ForcedAfterParadox}
use Rattle.deciding_laws.proofs.Information.{Below, opens}
use Rattle.deciding_laws.proofs.Along.{it, Along, none, more, along_map, Lower, agrees}
use Rattle.deciding_laws.proofs.RoundMonotone.{path_monotone, Finer, decides_monotone}

-- x is on the way to y, which is as all of ys decide it; S relates the stranded marks
pub record Towards (m : Board) (ys : List Resolution) (S : Unit → Order → Bool → Bool → Type 0) (x y : Resolution) : Type 0 where
  pub value : Lower x y
  pub fits : acts x.order ≡ true → decides m y ys x.order ≡ y.value
  pub stranded : S x.unit x.order x.stranded y.stranded

-- S keeps the paths
abbrev pub Keeps : Board → (Unit → Order → Bool → Bool → Type 0) → List Resolution → List Resolution → Type 0
Keeps m S xs ys = (u : Unit) (o : Order) (v w : Tri) (d e : Bool) → S u o d e → Below (path m (it u o v d) xs) (path m (it u o w e) ys)

finer_of : (m : Board) (S : Unit → Order → Bool → Bool → Type 0) (xs ys : List Resolution) → Keeps m S xs ys → {zs ws : List Resolution} → Along (Towards m ys S) zs ws → Along (Finer m xs ys) zs ws
finer_of m S xs ys k a = along_map (λ u o v w d e h. record { value = h.value; paths = k u o v w d e h.stranded }) a

toward : (m : Board) (S : Unit → Order → Bool → Bool → Type 0) (xs ys : List Resolution) → Keeps m S xs ys → Along (Finer m xs ys) xs ys → {zs ws : List Resolution} → Along (Towards m ys S) zs ws → Along (Towards m ys S) (map (again m xs) zs) ws
toward m S xs ys k a none = none
toward m S xs ys k a (more u o {v} {w} {d} {e} h b) =
    more u o (record { value = λ i. subst (λ z. Below (decides m (it u o v d) xs o) z) (h.fits i) (decides_monotone m a u o v w d e (record { value = h.value; paths = k u o v w d e h.stranded })); fits = h.fits; stranded = h.stranded }) (toward m S xs ys k a b)

pub least_step : (m : Board) (S : Unit → Order → Bool → Bool → Type 0) (xs ys : List Resolution) → Keeps m S xs ys → Along (Towards m ys S) xs ys → Along (Towards m ys S) (round m xs) ys
least_step m S xs ys k a = toward m S xs ys k (finer_of m S xs ys k a) a

pub towards_lower : {m : Board} {ys : List Resolution} {S : Unit → Order → Bool → Bool → Type 0} {zs ws : List Resolution} → Along (Towards m ys S) zs ws → Along Lower zs ws
towards_lower a = along_map (λ u o v w d e h. h.value) a

-- the same are stranded
abbrev pub SameMark : Unit → Order → Bool → Bool → Type 0
SameMark u o d e = d ≡ e

keeps_same : (m : Board) {xs ys : List Resolution} → Along Lower xs ys → Keeps m SameMark xs ys
keeps_same m {xs} {ys} a u o v w d e h = subst (λ z. Below (path m (it u o v d) xs) (path m (it u o w z) ys)) h (path_monotone m u o v w d a)

pub least_same : (m : Board) (n : ℕ) {xs ys : List Resolution} → Along (Towards m ys SameMark) xs ys → Along (Towards m ys SameMark) (rounds n m xs) ys
unfolding rounds
least_same m zero a = a
least_same m (suc n) {xs} {ys} a = least_same m n (least_step m SameMark xs ys (keeps_same m (towards_lower a)) a)

-- everything open again, on the way to what it was
towards_reopened : (m : Board) (ys zs : List Resolution) → ((z : Resolution) → Memᴰ z zs → acts z.order ≡ true → decides m z ys z.order ≡ z.value) → Along (Towards m ys SameMark) (map reopened zs) zs
towards_reopened m ys [] f = none
towards_reopened m ys (z ∷ zs) f = more z.unit z.order (record { value = λ _. opens; fits = f z (Memᴰ.head refl); stranded = refl }) (towards_reopened m ys zs (λ x i. f x (Memᴰ.tail i)))

-- from any list with nothing decided
pub forced_from : (m : Board) (start ys : List Resolution) → map reopened ys ≡ start → Consistent m ys → Agrees (decided m start) ys
forced_from m start ys e c =
    agrees (λ _ _ h. h.value) (λ _ _ h. h.stranded) (least_same m (length start + 1) (subst (λ s. Along (Towards m ys SameMark) s ys) e (towards_reopened m ys ys c.fits)))

pub forced : Forced
forced m os = forced_from m (fresh m os)

pub forced_after-paradox : ForcedAfterParadox
forced_after-paradox m os = forced_from m (strand m (decided m (fresh m os)))
