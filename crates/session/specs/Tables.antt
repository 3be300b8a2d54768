-- What the code's tables stand for. Assumes nothing.
use Rattle.std.specs.Prelude.{ℕ, List, [], map, length, Some, None, Option}
use Rattle.std.specs.Borrow.{Bor}
use Rattle.board.specs.Board.{Board}
use Rattle.deciding.specs.declared.report.Report.{Report}
use Rattle.game.specs.declared.phase.Phase.{Phase}
use Rattle.game.specs.declared.phase.Phase.TheVariants.{SpringMoves, SpringRetreats, AutumnMoves, AutumnRetreats, Winter}
use Rattle.game.specs.declared.text.Written.{Written}
use Rattle.game.specs.Game.{Game}
use Rattle.game.specs.Winter.{units_after_winter}
use Rattle.position.specs.declared.position.Position.{Position}
use Rattle.position.specs.Position.{board_of, game_of}
use Rattle.text.specs.declared.orders_file.Block.{Block}
use Rattle.text.specs.Names.{names_of}
use Rattle.text.specs.OrdersFile.{Texts, texts_of}
use Rattle.show.specs.Words.{Names}
use Rattle.show.specs.Reports.{move_lines, retreat_lines, winter_lines}
use Rattle.session.specs.declared.start.Gazetteer.{Gazetteer}
use Rattle.session.specs.declared.start.Playing.{Playing}
use Rattle.session.specs.Session.{Opening}

abbrev pub place_names : Gazetteer → Names
place_names g = names_of g.names

-- the board and the game of a position, under these names
abbrev pub opening_at : Names → Position → Opening
opening_at names p = record { names = names; board = board_of p; game = game_of p }

abbrev pub opening_of : Playing → Opening
opening_of game = opening_at (place_names game.places) game.position

abbrev pub blocks_of : List Block → List Texts
blocks_of blocks = map texts_of blocks

abbrev pub turns_in : List (Bor (List ℕ)) → List (List ℕ)
turns_in turns = map (λ t. t.now) turns

-- what is told of retreats and winters, which is known before the position changes
abbrev pub lines_before : Phase → Names → Board → Game → List Written → List ℕ
lines_before SpringMoves names m g ws = []
lines_before SpringRetreats names m g ws = retreat_lines names m g ws
lines_before AutumnMoves names m g ws = []
lines_before AutumnRetreats names m g ws = retreat_lines names m g ws
lines_before Winter names m g ws = winter_lines names (length m.regions) g.units (units_after_winter m g.owners ws g.units)

-- what is told of moves, if there were any
abbrev pub lines_after : Names → ℕ → List Written → Option (List Report) → List ℕ
lines_after names n ws None = []
lines_after names n ws (Some xs) = move_lines names n ws xs
