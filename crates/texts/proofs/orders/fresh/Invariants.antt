use Rattle.std.proofs.Common.{◌≡◌, ◌++◌, drop, vec_items}
use Rattle.board.specs.Atlas.{board_of}
use Rattle.deciding.specs.Outcome.{fresh}
use Rattle.game.specs.Texts.{ordered}
use Rattle.texts.proofs.orders.fresh.Given as goal

abbrev pub invariant-loop-u : goal.invariant-loop-u
invariant-loop-u l = vec_items l.out ++ fresh (board_of l.atlas) (ordered (drop l.u-index l.units) (vec_items l.texts.list)) ≡ fresh (board_of l.atlas) (ordered l.units (vec_items l.texts.list))
