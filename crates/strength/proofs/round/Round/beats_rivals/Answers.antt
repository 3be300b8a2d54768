use Rattle.std.proofs.Common.{ap, ◌∙◌}
use Rattle.std.specs.List.{fold}
use Rattle.values.specs.Tri.{and_tri}
use Rattle.values.specs.Span.{greater}
use Rattle.values.specs.declared.tri.Tri.TheVariants.{Yes}
use Rattle.board.specs.Atlas.{board_of}
use Rattle.assignment.proofs.Aimed.{turn, fold_aimed}
use Rattle.strength.specs.Strength.{prevent}
use Rattle.strength.specs.Decide.{rival}
use Rattle.strength.proofs.Aims.{rival_aimed}
use Rattle.strength.proofs.round.Round.beats_rivals.Goals as goal

pub loop-i-init : goal.loop-i-init
loop-i-init c =
    let x = c.args.x in
    let m = board_of c.args.self.atlas.now in
    let xs = c.args.self.orders.list.now in
    ap (fold (turn (rival x) (λ y rest. and_tri (greater c.args.a (prevent m y xs)) rest) xs) Yes) c.aimed_at-i-items.ensures.places ∙
    fold_aimed (rival x) (λ y rest. and_tri (greater c.args.a (prevent m y xs)) rest) Yes c.aim.result (rival_aimed c.aim.result x c.aim.ensures) xs
