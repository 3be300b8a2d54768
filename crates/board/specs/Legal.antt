-- Which orders a unit can carry out; any other is a hold. Assumes nothing.
use Rattle.std.specs.Prelude.{ℕ, Bool, true, cond, not, ◌&&◌, ◌==◌}
use Rattle.geography.specs.Links.{linked}
use Rattle.board.specs.declared.order.Order.{Order}
use Rattle.board.specs.declared.order.Order.TheVariants.{Hold, Move, SupportHold, SupportMove, Convoy}
use Rattle.board.specs.declared.unit.Unit.{Unit}
use Rattle.board.specs.Board.{Board, on_board, coastal, at_sea}

-- an edge for this kind of unit joins its region to t
abbrev pub steps : Board → Unit → ℕ → Bool
steps m u t = cond u.fleet (linked u.region t m.sail) (linked u.region t m.march)

-- an army on a coast, to any other coast
abbrev pub crosses : Board → Unit → ℕ → Bool
crosses m u t = not u.fleet && (coastal m u.region && (coastal m t && not (t == u.region)))

-- support and convoy go from one region of the board to another
abbrev pub apart : Board → ℕ → ℕ → Bool
apart m f t = on_board m f && (on_board m t && not (f == t))

abbrev pub legal : Board → Unit → Order → Bool
legal m u Hold = true
legal m u (Move to convoyed) = cond convoyed (crosses m u to) (steps m u to)
legal m u (SupportHold at) = steps m u at
legal m u (SupportMove from to) = steps m u to && (not (from == u.region) && apart m from to)
legal m u (Convoy from to) = u.fleet && (at_sea m u.region && apart m from to)

-- the order as played
abbrev pub as_played : Board → Unit → Order → Order
as_played m u o = cond (legal m u o) o Hold
