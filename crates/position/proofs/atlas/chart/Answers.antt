use Rattle.std.proofs.Common.{◌≡◌, true, vec_items, sym, ◌∙◌}
use Rattle.board.specs.Board.{good_board}
use Rattle.position.specs.Tables.{board_from}
use Rattle.position.proofs.Ends.{good_march, good_sail}
use Rattle.position.proofs.atlas.chart.Goals as goal
use Rattle.position.proofs.atlas.chart.Goals.{Else-not-good_board}

good : (c : Else-not-good_board) → good_board (board_from (vec_items c.args.regions) (vec_items c.args.march) (vec_items c.args.sail)) ≡ true
good c =
    let regions = c.as_slice.ensures.value in
    let march = c.as_slice-2.ensures.value in
    let sail = c.as_slice-3.ensures.value in
    rw (← regions, ← march, ← sail) (sym c.good_board.ensures ∙ c.if-not-good_board.false)

pub new-requires : goal.new-requires
new-requires c = good_march (vec_items c.args.regions) (vec_items c.args.march) (vec_items c.args.sail) (good c)

pub new-requires-2 : goal.new-requires-2
new-requires-2 c = good_sail (vec_items c.args.regions) (vec_items c.args.march) (vec_items c.args.sail) (good (goal.at.new-requires-2 c).Else-not-good_board)
