-- Strengths of moves, as spans: what attacks, what prevents, what has to be beaten. Assumes nothing.
use Rattle.std.specs.Prelude.{ℕ, Bool, cond, not, ◌&&◌, List, Some, None, Option, ◌==◌}
use Rattle.values.specs.Fold.{gather}
use Rattle.values.specs.declared.tri.Tri.{Tri}
use Rattle.values.specs.declared.tri.Tri.TheVariants.{No}
use Rattle.values.specs.declared.span.Span.{Span}
use Rattle.values.specs.Span.{sum, exactly, either, counted}
use Rattle.board.specs.Board.{Board}
use Rattle.board.specs.Order.{goes_to, is_move, is_convoyed, aim, supports_move, supports_hold}
use Rattle.assignment.specs.declared.resolution.Resolution.{Resolution}
use Rattle.assignment.specs.Assignment.{who}
use Rattle.paths.specs.Paths.{path}

-- the supports that the test lets count
abbrev pub support : (Resolution → Bool) → List Resolution → Span
support test xs = gather test (λ y rest. sum (counted y.value) rest) (exactly 0) xs

-- supports for just the move x
abbrev pub backs : Resolution → Resolution → Bool
backs x y = supports_move x.unit.region (aim x.order) y.order

abbrev pub support_for : Resolution → List Resolution → Span
support_for x xs = support (backs x) xs

-- those of powers other than p
abbrev pub support_but : ℕ → Resolution → List Resolution → Span
support_but p x xs = support (λ y. backs x y && not (p == y.unit.power)) xs

-- two units that move to each other's region, neither over water (the club: they meet)
abbrev pub head_to_head : Resolution → Resolution → Bool
head_to_head x y = goes_to x.unit.region y.order && goes_to y.unit.region x.order && not (is_convoyed x.order) && not (is_convoyed y.order)

-- whether y, in the region that x goes to, makes room for x
abbrev pub vacates : Resolution → Resolution → Tri
vacates x y = cond (is_move y.order && not (head_to_head x y)) y.value No

-- one, and the support of the move
abbrev pub full : Resolution → List Resolution → Span
full x xs = sum (exactly 1) (support_for x xs)

-- the attack of x on y, if y stays: none on a unit of its own power, and y's power helps nobody against y
abbrev pub against : Resolution → List Resolution → Resolution → Span
against x xs y = cond (x.unit.power == y.unit.power) (exactly 0) (sum (exactly 1) (support_but y.unit.power x xs))

abbrev pub attack_on : Resolution → List Resolution → Option Resolution → Span
attack_on x xs None = full x xs
attack_on x xs (Some y) = either (vacates x y) (full x xs) (against x xs y)

unfoldable pub attack : Board → Resolution → List Resolution → Span
attack m x xs = either (path m x xs) (attack_on x xs (who (aim x.order) xs)) (exactly 0)

-- what keeps other moves out of the region that x goes to: none if x lost a head-to-head there
abbrev pub prevent_of : Resolution → List Resolution → Option Resolution → Span
prevent_of x xs None = full x xs
prevent_of x xs (Some y) = cond (head_to_head x y) (either y.value (exactly 0) (full x xs)) (full x xs)

unfoldable pub prevent : Board → Resolution → List Resolution → Span
prevent m x xs = either (path m x xs) (prevent_of x xs (who (aim x.order) xs)) (exactly 0)

-- the strength of y in its own region
abbrev pub hold_of : List Resolution → Resolution → Span
hold_of xs y = cond (is_move y.order) (either y.value (exactly 0) (exactly 1)) (sum (exactly 1) (support (λ z. supports_hold y.unit.region z.order) xs))

-- what x has to beat in the region that it goes to
abbrev pub to_beat : Resolution → List Resolution → Option Resolution → Span
to_beat x xs None = exactly 0
to_beat x xs (Some y) = cond (head_to_head x y) (full y xs) (hold_of xs y)
