use Rattle.std.proofs.Common.{◌≡◌, length, get_or, ap, ◌∙◌, arith}
use Rattle.std.proofs.lemmas.List.{length-map, get_or-map}
use Rattle.values.specs.declared.tri.Tri.TheVariants.{No}
use Rattle.board.specs.Atlas.{board_of}
use Rattle.assignment.specs.Assignment.{nobody}
use Rattle.paths.specs.Paths.{path}
use Rattle.strength.proofs.round.path_at.Goals as goal

pub bounds-paths-i : goal.bounds-paths-i
bounds-paths-i c =
    let xs = c.args.xs.now in
    let long : length c.args.paths.now ≡ length xs = ap length c.requires.paths ∙ length-map xs (λ x. path (board_of c.args.atlas.now) x xs) in
    omega (arith, c.requires.place)

pub returns : goal.returns
returns c =
    let xs = c.args.xs.now in
    ap (λ l. get_or l c.args.i No) c.requires.paths ∙ get_or-map (λ x. path (board_of c.args.atlas.now) x xs) xs c.args.i nobody No c.requires.place
