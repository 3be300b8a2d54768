use Rattle.std.proofs.Common.{length, drop}
use Rattle.geography.specs.RegionSet.{has}
use Rattle.board.specs.Atlas.{board_of}
use Rattle.aftermath.proofs.Arriving.{Struck}
use Rattle.aftermath.proofs.after_moves.contested.Given as goal

abbrev pub invariant-loop-mover : goal.invariant-loop-mover
invariant-loop-mover l = Struck (board_of l.atlas) l.xs (has l.s) (drop (length l.yielded) l.xs)
