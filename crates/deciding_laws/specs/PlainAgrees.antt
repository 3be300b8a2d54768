-- Where everything is yes or no, the rules with spans say just what the plain rules say. Assumes nothing.
use Rattle.std.specs.Prelude.{◌≡◌, ℕ, true, List, map}
use Rattle.values.specs.declared.tri.Tri.{Tri}
use Rattle.values.specs.declared.tri.Tri.TheVariants.{No, Yes}
use Rattle.values.specs.declared.span.Span.{Span}
use Rattle.values.specs.Tri.{sure}
use Rattle.values.specs.Span.{exactly}
use Rattle.board.specs.Board.{Board}
use Rattle.board.specs.Order.{is_move, is_support, aim}
use Rattle.assignment.specs.declared.resolution.Resolution.{Resolution}
use Rattle.assignment.specs.Assignment.{who, dislodged}
use Rattle.geography.specs.Links.{linked}
use Rattle.paths.specs.Paths.{surely_stays, chain, path}
use Rattle.strength.specs.Strength.{attack, prevent, to_beat}
use Rattle.strength.specs.Decide.{decides}
use Rattle.deciding_laws.specs.Plain as plain
use Rattle.deciding_laws.specs.Plain.{Answer, Chain, Path, Attack, Prevent, MoveSucceeds, SupportStands, JustIf}

abbrev pub resolution : Answer → Resolution
resolution x = record { unit = x.unit; order = x.order; value = sure x.success; stranded = x.stranded }

-- yes where P is so, no where it isn't, and never open
pub data Tells (P : Type 0) : Tri → Type 0 where
  says_yes : P → Tells P Yes
  says_no : (P → ⊥) → Tells P No

-- a span that is a number, of which R is so
pub record Measures (R : ℕ → Type 0) (s : Span) : Type 0 where
  pub amount : ℕ
  pub exact : s ≡ exactly amount
  pub is : R amount

-- a chain of fleets from f whose last is joined to t
pub record Linked (m : Board) (xs : List Answer) (f t : ℕ) : Type 0 where
  pub last : Answer
  pub links : Chain m xs f t last
  pub joined : linked last.unit.region t m.sail ≡ true

pub record SameRules (m : Board) (xs : List Answer) : Type 0 where
  pub dislodgings : (x : Answer) → dislodged (resolution x) (map resolution xs) ≡ sure (plain.dislodged xs x)
  -- flooding finds a chain just if there is one
  pub chains : (f t : ℕ) → JustIf (chain m (surely_stays (map resolution xs)) f t (map resolution xs)) (Linked m xs f t)
  pub paths : (x : Answer) → Tells (Path m xs x) (path m (resolution x) (map resolution xs))
  pub attacks : (x : Answer) → Measures (Attack m xs x) (attack m (resolution x) (map resolution xs))
  pub prevents : (x : Answer) → Measures (Prevent m xs x) (prevent m (resolution x) (map resolution xs))
  pub defences : (x : Answer) → to_beat (resolution x) (map resolution xs) (who (aim x.order) (map resolution xs)) ≡ exactly (plain.to_beat x xs (plain.who (aim x.order) xs))
  pub moves : (x : Answer) → is_move x.order ≡ true → Tells (MoveSucceeds m xs x) (decides m (resolution x) (map resolution xs) x.order)
  pub supports : (x : Answer) → is_support x.order ≡ true → Tells (SupportStands m xs x) (decides m (resolution x) (map resolution xs) x.order)

abbrev pub PlainAgrees : Type 0
PlainAgrees = (m : Board) (xs : List Answer) → SameRules m xs
