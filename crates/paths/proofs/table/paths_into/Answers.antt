use Rattle.std.proofs.Common.{refl, rules}
use Rattle.std.proofs.lemmas.Iterator.{YieldsList-from_slice, YieldsList-from_map}
use Rattle.std.proofs.lemmas.Iterator.Adapters.{serves_from_places}
use Rattle.board.specs.Atlas.{board_of}
use Rattle.paths.specs.Paths.{path}
use Rattle.paths.proofs.Inside.{inside_item}
use Rattle.paths.proofs.Refilled.{refilled}
use Rattle.paths.proofs.table.paths_into.Goals as goal

pub refill-requires-clause-can : goal.refill-requires-clause-can
refill-requires-clause-can c =
    let xs = c.args.orders.list.now in
    (tt, serves_from_places (YieldsList-from_slice xs (cc)) (λ x q k. search rules) (λ x k l e. let h = inside_item xs k x.now c.requires.inside l e in search rules))

pub returns-clause-items : goal.returns-clause-items
returns-clause-items c =
    let xs = c.args.orders.list.now in
    refilled c.refill.ensures.items (YieldsList-from_map _ (λ x. path (board_of c.args.atlas.now) x xs) (YieldsList-from_slice xs (cc)) refl (λ x r q k. search rules))
