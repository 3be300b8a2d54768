-- The board and the game that a position stands for. Assumes nothing.
use Rattle.std.specs.Prelude.{vec_items}
use Rattle.board.specs.Board.{Board}
use Rattle.board.specs.Atlas as atlas
use Rattle.game.specs.Game.{Game}
use Rattle.position.specs.declared.position.Position.{Position}
use Rattle.position.specs.Tables.{game_on}

abbrev pub board_of : Position → Board
board_of p = atlas.board_of p.atlas

abbrev pub game_of : Position → Game
game_of p = game_on p.atlas p.phase (vec_items p.units) (vec_items p.dislodged) p.barred (vec_items p.owners)
