use Rattle.std.proofs.Common.{ap, ◌∙◌}
use Rattle.std.specs.List.{fold}
use Rattle.values.specs.Tri.{or_tri}
use Rattle.values.specs.Span.{exactly, greater}
use Rattle.values.specs.declared.tri.Tri.TheVariants.{No}
use Rattle.board.specs.Atlas.{board_of}
use Rattle.assignment.proofs.Aimed.{turn, fold_aimed}
use Rattle.strength.specs.Strength.{attack}
use Rattle.strength.specs.Decide.{cuts}
use Rattle.strength.proofs.Aims.{cuts_aimed}
use Rattle.strength.proofs.round.Round.cut.Goals as goal

pub loop-i-init : goal.loop-i-init
loop-i-init c =
    let x = c.args.x in
    let m = board_of c.args.self.atlas.now in
    let xs = c.args.self.orders.list.now in
    ap (fold (turn (cuts x) (λ y rest. or_tri (greater (attack m y xs) (exactly 0)) rest) xs) No) c.aimed_at-i-items.ensures.places ∙
    fold_aimed (cuts x) (λ y rest. or_tri (greater (attack m y xs) (exactly 0)) rest) No x.unit.region (cuts_aimed x) xs
