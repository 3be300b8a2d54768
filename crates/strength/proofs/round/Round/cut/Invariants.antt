use Rattle.std.proofs.Common.{◌≡◌, drop}
use Rattle.std.specs.List.{fold}
use Rattle.values.specs.Tri.{or_tri}
use Rattle.values.specs.Span.{exactly, greater}
use Rattle.board.specs.Atlas.{board_of}
use Rattle.assignment.proofs.Aimed.{turn}
use Rattle.strength.specs.Strength.{attack}
use Rattle.strength.specs.Decide.{cuts, cut}
use Rattle.strength.proofs.round.Round.cut.Given as goal

abbrev pub invariant-loop-i : goal.invariant-loop-i
invariant-loop-i l =
    let m = board_of l.self.atlas.now in
    let xs = l.self.orders.list.now in
    fold (turn (cuts l.x) (λ y rest. or_tri (greater (attack m y xs) (exactly 0)) rest) xs) l.acc (drop l.i-index l.i-items) ≡ cut m l.x xs xs
