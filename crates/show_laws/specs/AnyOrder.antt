-- What is printed of a phase, whatever the order of units, texts, those dislodged, barred regions and edges. Assumes nothing.
use Rattle.std.specs.Prelude.{◌≡◌, true, List}
use Rattle.values.specs.Shuffle.{Shuffled}
use Rattle.board.specs.Board.{Board, good_board}
use Rattle.game.specs.declared.text.Written.{Written}
use Rattle.game.specs.Game.{Game}
use Rattle.game.specs.Lawful.{Lawful}
use Rattle.order_laws.specs.Edges.{SameBoard}
use Rattle.order_laws.specs.Turns.{AlikeGames}
use Rattle.show.specs.Words.{Names}
use Rattle.show.specs.Reports.{phase_bytes}

-- the lines of the phase and the next game, byte for byte
abbrev pub PrintAnyOrder : Type 0
PrintAnyOrder =
    (names : Names) (m n : Board) (g h : Game) (ws vs : List Written) → SameBoard m n → good_board m ≡ true → Lawful m g → AlikeGames g h → Shuffled Written ws vs →
    phase_bytes names m g ws ≡ phase_bytes names n h vs
