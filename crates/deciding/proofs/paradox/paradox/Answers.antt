use Rattle.std.proofs.Common.{◌&&◌, ◌||◌, ◌∙◌, rules}
use Rattle.std.proofs.lemmas.Iterator.Search.{any_from_yields_List}
use Rattle.values.specs.Tri.{is_open}
use Rattle.board.specs.Order.{is_move, is_support}
use Rattle.board.specs.Atlas.{board_of}
use Rattle.paths.specs.Paths.{path}
use Rattle.paths.proofs.InStep.{road, any_made}
use Rattle.deciding.proofs.paradox.paradox.Goals as goal

pub returns : goal.returns
returns c =
    let xs = c.args.xs.now in
    let make = λ (x : _). path (board_of c.args.atlas.now) x xs in
    let test = λ (p : _ × _). (is_support p.0.order && is_open p.0.value) || (is_move p.0.order && is_open p.1) in
    any_from_yields_List test c.any.new.self _ _ c.any.ensures.ran (road make xs c.args.paths.now c.requires.paths c.zip-units.result (cc) (cc)) (λ p b q k. search rules) ∙
    any_made make test xs
