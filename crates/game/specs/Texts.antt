-- What was written for a unit: the one text of its power for its region. Assumes nothing.
use Rattle.std.specs.Prelude.{ℕ, Bool, ◌&&◌, List, map, Some, None, Option, ◌==◌}
use Rattle.values.specs.Fold.{pick, only}
use Rattle.board.specs.declared.order.Order.{Order}
use Rattle.board.specs.declared.order.Order.TheVariants.{Hold}
use Rattle.board.specs.declared.unit.Unit.{Unit}
use Rattle.deciding.specs.Outcome.{Ordered}
use Rattle.game.specs.declared.text.Text.{Text}
use Rattle.game.specs.declared.text.Text.TheVariants.{Command, Build, Disband}
use Rattle.game.specs.declared.text.Written.{Written}

-- written by power p for region r
abbrev pub addressed : ℕ → ℕ → Written → Bool
addressed p r w = p == w.power && r == w.region

abbrev pub written_for : ℕ → ℕ → List Written → List Text
written_for p r ws = pick (addressed p r) (λ w. w.text) ws

-- none, or more than one, counts as none
abbrev pub text_for : ℕ → ℕ → List Written → Option Text
text_for p r ws = only (written_for p r ws)

-- a text that is no order, or none, is a hold
abbrev pub order_in : Option Text → Order
order_in None = Hold
order_in (Some (Command o)) = o
order_in (Some (Build fleet)) = Hold
order_in (Some Disband) = Hold

abbrev pub ordered_one : List Written → Unit → Ordered
ordered_one ws u = record { unit = u; order = order_in (text_for u.power u.region ws) }

abbrev pub ordered : List Unit → List Written → List Ordered
ordered us ws = map (ordered_one ws) us
