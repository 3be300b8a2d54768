-- The board that the code's tables stand for. Assumes nothing.
use Rattle.std.specs.Prelude.{vec_items}
use Rattle.board.specs.declared.atlas.Atlas.{Atlas}
use Rattle.board.specs.Board.{Board}

abbrev pub board_of : Atlas → Board
board_of a = record { regions = vec_items a.regions; march = vec_items a.march.edges; sail = vec_items a.sail.edges }
