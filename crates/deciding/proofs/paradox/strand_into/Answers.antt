use Rattle.std.proofs.Common.{◌&&◌, ◌||◌, ◌∙◌, refl, rules}
use Rattle.std.proofs.lemmas.Iterator.{YieldsList-from_map}
use Rattle.std.proofs.lemmas.Iterator.Consumers.{YieldsList-at}
use Rattle.values.specs.declared.tri.Tri.TheVariants.{Open}
use Rattle.values.specs.Tri.{is_open}
use Rattle.board.specs.Order.{is_move}
use Rattle.board.specs.Atlas.{board_of}
use Rattle.assignment.specs.declared.resolution.Resolution.{Resolution}
use Rattle.paths.specs.Paths.{path}
use Rattle.paths.proofs.InStep.{road, map_made}
use Rattle.paths.proofs.Refilled.{refilled}
use Rattle.deciding.proofs.paradox.strand_into.Goals as goal

pub returns-clause-items : goal.returns-clause-items
returns-clause-items c =
    let xs = c.args.xs.now in
    let make = λ (x : _). path (board_of c.args.atlas.now) x xs in
    let change : Resolution × _ → Resolution = λ p. record { unit = p.0.unit; order = p.0.order; value = Open; stranded = p.0.stranded || (is_move p.0.order && is_open p.1) } in
    refilled c.refill.ensures.items (YieldsList-from_map _ change (YieldsList-at c.map.ensures.source (road make xs c.args.paths.now c.requires.paths c.zip-units.result (cc) (cc))) refl (λ p r q k. search rules)) ∙
    map_made make change xs
