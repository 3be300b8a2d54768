use Rattle.std.proofs.Common.{◌≡◌, false, ◌++◌, map, drop, vec_items, vec_len, vec_capacity}
use Rattle.board.specs.Atlas.{board_of}
use Rattle.deciding.specs.Rounds.{again}
use Rattle.deciding.proofs.rounds.round_into.Given as goal

abbrev pub invariant-loop-i : goal.invariant-loop-i
invariant-loop-i l =
    (vec_items l.out ++ map (again (board_of l.known.atlas.now) l.known.orders.list.now) (drop l.i l.known.orders.list.now) ≡ map (again (board_of l.known.atlas.now) l.known.orders.list.now) l.known.orders.list.now) ×
    (l.changed ≡ false → vec_items l.out ++ drop l.i l.known.orders.list.now ≡ l.known.orders.list.now) × (vec_len l.out ≡ l.i) × (vec_capacity l.out ≡ vec_capacity l.initial.out)
