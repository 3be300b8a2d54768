-- Rounds end; there is at most one paradox; what then stays open are rings. Assumes nothing.
use Rattle.std.specs.Prelude.{◌≡◌, ℕ, suc, true, false, List, length, Some}
use mathlib.Core.List.{Memᴰ}
use Rattle.values.specs.declared.tri.Tri.TheVariants.{Open}
use Rattle.values.specs.Tri.{is_open}
use Rattle.board.specs.Board.{Board}
use Rattle.board.specs.Order.{is_move, is_support, aim}
use Rattle.assignment.specs.declared.resolution.Resolution.{Resolution}
use Rattle.assignment.specs.Assignment.{who}
use Rattle.paths.specs.Paths.{path}
use Rattle.strength.specs.Strength.{head_to_head}
use Rattle.deciding.specs.Rounds.{round, rounds, decided}
use Rattle.deciding.specs.Outcome.{Ordered, fresh, strand, paradox, settled, in_ring}
use Rattle.deciding_laws.specs.Assignments.{Apart, Agrees}

pub record Ends (m : Board) (xs : List Resolution) : Type 0 where
  -- each round keeps what was decided
  pub ascend : (n : ℕ) → Agrees (rounds n m xs) (rounds (suc n) m xs)
  -- as many rounds as units, and a further round changes nothing
  pub enough : round m (rounds (length xs) m xs) ≡ rounds (length xs) m xs
  pub rested : decided m xs ≡ rounds (length xs) m xs

-- rounds that begin with nothing decided end
abbrev pub RoundsEnd : Type 0
RoundsEnd = (m : Board) (xs : List Resolution) → ((x : Resolution) → Memᴰ x xs → x.value ≡ Open) → Ends m xs

-- after the paradox rule there is no second paradox
abbrev pub ParadoxOnce : Type 0
ParadoxOnce = (m : Board) (os : List Ordered) → Apart os → paradox m (decided m (strand m (decided m (fresh m os)))) ≡ false

-- x waits for the unit in the region that it goes to, which moves on, is open too, and doesn't meet x
pub record WaitsForNext (xs : List Resolution) (x : Resolution) : Type 0 where
  pub next : Resolution
  pub there : who (aim x.order) xs ≡ Some next
  pub open_too : in_ring next ≡ true
  pub unmet : head_to_head x next ≡ false

pub record OnlyRings (m : Board) (xs : List Resolution) : Type 0 where
  pub supports : (x : Resolution) → Memᴰ x xs → is_support x.order ≡ true → is_open x.value ≡ false
  pub paths : (x : Resolution) → Memᴰ x xs → is_move x.order ≡ true → is_open (path m x xs) ≡ false
  -- each open move waits for just one other
  pub waits : (x : Resolution) → Memᴰ x xs → in_ring x ≡ true → WaitsForNext xs x
  -- and no two open moves go to one region
  pub alone : (x y : Resolution) → Memᴰ x xs → Memᴰ y xs → in_ring x ≡ true → in_ring y ≡ true → aim x.order ≡ aim y.order → x ≡ y

-- what is open when all is settled goes round in rings
abbrev pub RingsOnly : Type 0
RingsOnly = (m : Board) (os : List Ordered) → Apart os → OnlyRings m (settled m os)
