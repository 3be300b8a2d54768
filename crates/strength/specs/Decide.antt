-- One move or support decided by all the others. Assumes nothing.
use Rattle.std.specs.Prelude.{Bool, not, ◌&&◌, List, ◌==◌}
use Rattle.values.specs.Fold.{gather}
use Rattle.values.specs.declared.tri.Tri.{Tri}
use Rattle.values.specs.declared.tri.Tri.TheVariants.{No, Yes}
use Rattle.values.specs.declared.span.Span.{Span}
use Rattle.values.specs.Tri.{not_tri, and_tri, or_tri}
use Rattle.values.specs.Span.{exactly, greater}
use Rattle.board.specs.Board.{Board}
use Rattle.board.specs.declared.order.Order.{Order}
use Rattle.board.specs.declared.order.Order.TheVariants.{Hold, Move, SupportHold, SupportMove, Convoy}
use Rattle.board.specs.Order.{goes_to, aim}
use Rattle.assignment.specs.declared.resolution.Resolution.{Resolution}
use Rattle.assignment.specs.Assignment.{who, dislodged}
use Rattle.strength.specs.Strength.{attack, prevent, to_beat}

-- another move to the region that x goes to
abbrev pub rival : Resolution → Resolution → Bool
rival x y = goes_to (aim x.order) y.order && not (x.unit.region == y.unit.region)

-- the attack a of x is greater than what each rival among ys prevents
abbrev pub beats_rivals : Board → Span → Resolution → List Resolution → List Resolution → Tri
beats_rivals m a x xs ys = gather (rival x) (λ y rest. and_tri (greater a (prevent m y xs)) rest) Yes ys

-- a move succeeds if its attack is greater than what it has to beat and than the prevent of every rival
abbrev pub move_succeeds : Board → Resolution → List Resolution → Tri
move_succeeds m x xs = and_tri (greater (attack m x xs) (to_beat x xs (who (aim x.order) xs))) (beats_rivals m (attack m x xs) x xs xs)

-- a foreign move into the region of the support x, from elsewhere than where x is aimed
abbrev pub cuts : Resolution → Resolution → Bool
cuts x y = goes_to x.unit.region y.order && not (x.unit.power == y.unit.power) && not (y.unit.region == aim x.order)

-- some such move has an attack of 1 or more
abbrev pub cut : Board → Resolution → List Resolution → List Resolution → Tri
cut m x xs ys = gather (cuts x) (λ y rest. or_tri (greater (attack m y xs) (exactly 0)) rest) No ys

-- a support stands unless it is cut or its unit dislodged
abbrev pub support_stands : Board → Resolution → List Resolution → Tri
support_stands m x xs = not_tri (or_tri (cut m x xs xs) (dislodged x xs))

-- what the others decide of x's order; holds and convoys have nothing to decide
abbrev pub decides : Board → Resolution → List Resolution → Order → Tri
decides m x xs Hold = No
decides m x xs (Move to convoyed) = move_succeeds m x xs
decides m x xs (SupportHold at) = support_stands m x xs
decides m x xs (SupportMove from to) = support_stands m x xs
decides m x xs (Convoy from to) = No
