use Rattle.std.proofs.Common.{◌≡◌, drop}
use Rattle.std.specs.List.{fold}
use Rattle.values.specs.Tri.{and_tri}
use Rattle.values.specs.Span.{greater}
use Rattle.board.specs.Atlas.{board_of}
use Rattle.assignment.proofs.Aimed.{turn}
use Rattle.strength.specs.Strength.{prevent}
use Rattle.strength.specs.Decide.{rival, beats_rivals}
use Rattle.strength.proofs.round.Round.beats_rivals.Given as goal

abbrev pub invariant-loop-i : goal.invariant-loop-i
invariant-loop-i l =
    let m = board_of l.self.atlas.now in
    let xs = l.self.orders.list.now in
    fold (turn (rival l.x) (λ y rest. and_tri (greater l.a (prevent m y xs)) rest) xs) l.acc (drop l.i-index l.i-items) ≡ beats_rivals m l.a l.x xs xs
