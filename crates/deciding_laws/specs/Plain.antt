-- The rules where everything is yes or no: strengths are numbers, and a path is a chain of fleets. Assumes nothing.
use Rattle.std.specs.Prelude.{◌≡◌, ℕ, ◌+◌, ◌<◌, Bool, true, false, cond, not, ◌&&◌, List, Some, None, Option, ◌==◌, nat_eq}
use mathlib.Core.List.{Memᴰ}
use Rattle.values.specs.Fold.{any, number, find}
use Rattle.geography.specs.Links.{linked}
use Rattle.board.specs.Board.{Board}
use Rattle.board.specs.declared.order.Order.{Order}
use Rattle.board.specs.declared.unit.Unit.{Unit}
use Rattle.board.specs.Order.{goes_to, is_move, is_support, is_convoyed, aim, supports_move, supports_hold, convoys}

-- a unit with its order, whether that succeeds, and whether the paradox rule took its path
pub record Answer : Type 0 where
  pub unit : Unit
  pub order : Order
  pub success : Bool
  pub stranded : Bool

-- ---- who is where
abbrev pub who : ℕ → List Answer → Option Answer
who r xs = find (λ x. nat_eq r x.unit.region) xs

-- a move into r that succeeds
abbrev pub enters : ℕ → Answer → Bool
enters r x = goes_to r x.order && x.success

-- dislodged: some move into its region succeeds and its own move, if it has one, doesn't
abbrev pub dislodged : List Answer → Answer → Bool
dislodged xs x = any (enters x.unit.region) xs && not (is_move x.order && x.success)

-- two units meet if each moves to the other's region, neither over water
abbrev pub meet : Answer → Answer → Bool
meet x y = goes_to x.unit.region y.order && goes_to y.unit.region x.order && not (is_convoyed x.order) && not (is_convoyed y.order)

-- ---- paths
-- a fleet that convoys just from f to t and is not dislodged
abbrev pub ferries : List Answer → ℕ → ℕ → Answer → Bool
ferries xs f t z = convoys f t z.order && not (dislodged xs z)

-- a chain of them: the first is joined to f by an edge for fleets, each next to one before it
pub data Chain (m : Board) (xs : List Answer) (f t : ℕ) : Answer → Type 0 where
  begins : {z : Answer} → Memᴰ z xs → ferries xs f t z ≡ true → linked z.unit.region f m.sail ≡ true → Chain m xs f t z
  goes_on : {y z : Answer} → Chain m xs f t y → Memᴰ z xs → ferries xs f t z ≡ true → linked z.unit.region y.unit.region m.sail ≡ true → Chain m xs f t z

-- a move over land has a path; one over water has it if there is a chain, the last joined to its end, unless the paradox rule took it
pub data Path (m : Board) (xs : List Answer) (x : Answer) : Type 0 where
  over_land : is_convoyed x.order ≡ false → Path m xs x
  over_water : {z : Answer} → x.stranded ≡ false → Chain m xs x.unit.region (aim x.order) z → linked z.unit.region (aim x.order) m.sail ≡ true → Path m xs x

-- ---- strengths
-- supports for just the move x, that stand; all of them, or those of powers other than p
abbrev pub supports : Answer → List Answer → ℕ
supports x xs = number (λ y. supports_move x.unit.region (aim x.order) y.order && y.success) xs

abbrev pub supports_but : ℕ → Answer → List Answer → ℕ
supports_but p x xs = number (λ y. (supports_move x.unit.region (aim x.order) y.order && not (p == y.unit.power)) && y.success) xs

-- supports for whoever stays in r, that stand
abbrev pub hold_supports : ℕ → List Answer → ℕ
hold_supports r xs = number (λ y. supports_hold r y.order && y.success) xs

-- the attack of a move that has a path, by who is in the region that it goes to: full if nobody is, or who is there moves on;
-- else none on a unit of its own power, and the power attacked gives no support against itself
abbrev pub attack_on : Answer → List Answer → Option Answer → ℕ
attack_on x xs None = 1 + supports x xs
attack_on x xs (Some y) =
    cond (is_move y.order && not (meet x y) && y.success) (1 + supports x xs)
    (cond (x.unit.power == y.unit.power) 0 (1 + supports_but y.unit.power x xs))

-- what it prevents: nothing if it lost to a unit that it met there
abbrev pub prevent_on : Answer → List Answer → Option Answer → ℕ
prevent_on x xs None = 1 + supports x xs
prevent_on x xs (Some y) = cond (meet x y && y.success) 0 (1 + supports x xs)

-- what it has to beat there
abbrev pub to_beat : Answer → List Answer → Option Answer → ℕ
to_beat x xs None = 0
to_beat x xs (Some y) =
    cond (meet x y) (1 + supports y xs)
    (cond (is_move y.order) (cond y.success 0 1)
    (1 + hold_supports y.unit.region xs))

-- without a path a move attacks and prevents with 0
pub data Attack (m : Board) (xs : List Answer) (x : Answer) : ℕ → Type 0 where
  stuck : (Path m xs x → ⊥) → Attack m xs x 0
  there : Path m xs x → Attack m xs x (attack_on x xs (who (aim x.order) xs))

pub data Prevent (m : Board) (xs : List Answer) (x : Answer) : ℕ → Type 0 where
  stuck : (Path m xs x → ⊥) → Prevent m xs x 0
  there : Path m xs x → Prevent m xs x (prevent_on x xs (who (aim x.order) xs))

-- ---- what succeeds
-- another move to the region that x goes to
abbrev pub rival : Answer → Answer → Bool
rival x y = goes_to (aim x.order) y.order && not (x.unit.region == y.unit.region)

-- a move succeeds if its attack is greater than what it has to beat and than the prevent of every rival
pub record MoveSucceeds (m : Board) (xs : List Answer) (x : Answer) : Type 0 where
  pub strength : ℕ
  pub attacks : Attack m xs x strength
  pub beats : to_beat x xs (who (aim x.order) xs) < strength
  pub outdoes : (y : Answer) → Memᴰ y xs → rival x y ≡ true → (n : ℕ) → Prevent m xs y n → n < strength

-- a foreign move into the region of the support x, from elsewhere than where x is aimed
abbrev pub cuts : Answer → Answer → Bool
cuts x y = goes_to x.unit.region y.order && not (x.unit.power == y.unit.power) && not (y.unit.region == aim x.order)

-- a support stands if its unit isn't dislodged and no such move has an attack of 1 or more
pub record SupportStands (m : Board) (xs : List Answer) (x : Answer) : Type 0 where
  pub stays : dislodged xs x ≡ false
  pub uncut : (y : Answer) → Memᴰ y xs → cuts x y ≡ true → (n : ℕ) → Attack m xs y n → n ≡ 0

-- ---- an assignment that keeps the rules
abbrev pub JustIf : Bool → Type 0 → Type 0
JustIf b P = (b ≡ true → P) × (P → b ≡ true)

-- each move and each support succeeds just if the rules say so; holds and convoys have nothing to succeed in
pub record Ruled (m : Board) (xs : List Answer) : Type 0 where
  pub moves : (x : Answer) → Memᴰ x xs → is_move x.order ≡ true → JustIf x.success (MoveSucceeds m xs x)
  pub supports : (x : Answer) → Memᴰ x xs → is_support x.order ≡ true → JustIf x.success (SupportStands m xs x)
  pub others : (x : Answer) → Memᴰ x xs → is_move x.order ≡ false → is_support x.order ≡ false → x.success ≡ false
