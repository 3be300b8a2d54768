use Rattle.std.proofs.Common.{◌-◌, map, length, drop}
use Rattle.board.specs.Atlas.{board_of}
use Rattle.position.proofs.Placed.{Placed}
use Rattle.position.proofs.lawful.well_placed.Given as goal

abbrev pub invariant-loop-piece : goal.invariant-loop-piece
invariant-loop-piece g l =
    (goal.iterator-loop-piece g).can_next l.piece-iterator
    × (goal.iterator-loop-piece g).is_finite l.piece-iterator
    × Placed (board_of l.atlas) (map g.P.Standing.piece (drop (length l.pieces - length l.yielded) l.pieces)) l.taken
