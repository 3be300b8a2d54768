use Rattle.std.proofs.Common.{◌≡◌, true, vec_items}
use Rattle.values.specs.Fold.{all}
use Rattle.board.specs.Board.{stands}
use Rattle.board.specs.Atlas.{board_of}
use Rattle.game.specs.Winter.{winters}
use Rattle.winter.proofs.winter.units_after_winter.Given as goal

abbrev pub invariant-loop-power : goal.invariant-loop-power
invariant-loop-power l = (vec_items l.standing ≡ winters (board_of l.atlas) l.owners (vec_items l.texts.list) l.power l.units) × (all (stands (board_of l.atlas)) (vec_items l.standing) ≡ true)
