-- Retreats: one step, to an empty region that isn't barred and isn't where the attack came from. Assumes nothing.
use Rattle.std.specs.Prelude.{ℕ, Bool, false, cond, not, ◌&&◌, List, [], ◌∷◌, ◌++◌, Some, None, Option, ◌==◌, nat_eq}
use Rattle.values.specs.Fold.{any, each, number, is_in}
use Rattle.board.specs.Board.{Board}
use Rattle.board.specs.Legal.{steps}
use Rattle.board.specs.declared.order.Order.{Order}
use Rattle.board.specs.declared.order.Order.TheVariants.{Hold, Move, SupportHold, SupportMove, Convoy}
use Rattle.board.specs.declared.unit.Unit.{Unit}
use Rattle.game.specs.declared.phase.Dislodged.{Dislodged}
use Rattle.game.specs.declared.text.Written.{Written}
use Rattle.game.specs.Game.{Game}
use Rattle.game.specs.Texts.{text_for, order_in}

abbrev pub occupied : ℕ → List Unit → Bool
occupied r us = any (λ u. nat_eq r u.region) us

-- just n, and not nobody
abbrev pub is_just : ℕ → Option ℕ → Bool
is_just n None = false
is_just n (Some k) = n == k

abbrev pub may_retreat : Board → Game → Dislodged → ℕ → Bool
may_retreat m g d t = steps m d.unit t && (not (occupied t g.units) && (not (is_in t g.barred) && not (is_just t d.from)))

-- where the text sends d, if it is a retreat: a move, not over water, that may be
abbrev pub retreat_by : Board → Game → Dislodged → Order → Option ℕ
retreat_by m g d Hold = None
retreat_by m g d (Move to convoyed) = cond (not convoyed && may_retreat m g d to) (Some to) None
retreat_by m g d (SupportHold at) = None
retreat_by m g d (SupportMove from to) = None
retreat_by m g d (Convoy from to) = None

abbrev pub retreat_of : Board → Game → List Written → Dislodged → Option ℕ
retreat_of m g ws d = retreat_by m g d (order_in (text_for d.unit.power d.unit.region ws))

-- how many retreats go to t
abbrev pub retreats_to : Board → Game → List Written → ℕ → ℕ
retreats_to m g ws t = number (λ d. is_just t (retreat_of m g ws d)) g.dislodged

-- two whose retreats go to one region are both gone
abbrev pub arrival : Board → Game → List Written → Unit → Option ℕ → List Unit
arrival m g ws u None = []
arrival m g ws u (Some t) = cond (retreats_to m g ws t == 1) (record { power = u.power; region = t; fleet = u.fleet } ∷ []) []

abbrev pub retreated : Board → Game → List Written → List Unit
retreated m g ws = each (λ d. arrival m g ws d.unit (retreat_of m g ws d)) g.dislodged

abbrev pub units_after_retreats : Board → Game → List Written → List Unit
units_after_retreats m g ws = g.units ++ retreated m g ws
