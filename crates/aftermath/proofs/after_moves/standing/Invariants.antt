use Rattle.std.proofs.Common.{◌≡◌, not, ◌++◌, drop, vec_items}
use Rattle.values.specs.Fold.{pick}
use Rattle.game.specs.AfterMoves.{is_dislodged, moved_unit, standing}
use Rattle.aftermath.proofs.after_moves.standing.Given as goal

abbrev pub invariant-loop-x : goal.invariant-loop-x
invariant-loop-x l = vec_items l.out ++ pick (λ x. not (is_dislodged l.xs x)) moved_unit (drop l.x-index l.xs) ≡ standing l.xs
