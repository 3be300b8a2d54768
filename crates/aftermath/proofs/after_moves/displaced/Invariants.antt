use Rattle.std.proofs.Common.{◌≡◌, ◌++◌, drop, vec_items}
use Rattle.values.specs.Fold.{pick}
use Rattle.game.specs.AfterMoves.{is_dislodged, attacked_from, displaced}
use Rattle.aftermath.proofs.after_moves.displaced.Given as goal

abbrev pub invariant-loop-x : goal.invariant-loop-x
invariant-loop-x l = vec_items l.out ++ pick (is_dislodged l.xs) (λ x. record { unit = x.unit; from = attacked_from x.unit.region l.xs }) (drop l.x-index l.xs) ≡ displaced l.xs
