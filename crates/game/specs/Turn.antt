-- One phase, and many. Assumes nothing.
use Rattle.std.specs.Prelude.{List, [], ◌∷◌}
use Rattle.board.specs.Board.{Board}
use Rattle.deciding.specs.Outcome.{outcome}
use Rattle.game.specs.declared.phase.Phase.{Phase}
use Rattle.game.specs.declared.phase.Phase.TheVariants.{SpringMoves, SpringRetreats, AutumnMoves, AutumnRetreats, Winter}
use Rattle.game.specs.declared.text.Written.{Written}
use Rattle.game.specs.Game.{Game}
use Rattle.game.specs.Texts.{ordered}
use Rattle.game.specs.AfterMoves.{after_moves}
use Rattle.game.specs.Retreats.{units_after_retreats}
use Rattle.game.specs.Owners.{owners_from}
use Rattle.game.specs.Winter.{units_after_winter}

abbrev pub moves : Board → Game → List Written → Game
moves m g ws = after_moves m g (outcome m (ordered g.units ws))

abbrev pub turn_in : Phase → Board → Game → List Written → Game
turn_in SpringMoves m g ws = moves m g ws
turn_in SpringRetreats m g ws = record { phase = AutumnMoves; units = units_after_retreats m g ws; dislodged = []; barred = []; owners = g.owners }
turn_in AutumnMoves m g ws = moves m g ws
turn_in AutumnRetreats m g ws =
    record { phase = Winter; units = units_after_retreats m g ws; dislodged = []; barred = []; owners = owners_from 0 m.regions (units_after_retreats m g ws) g.owners }
turn_in Winter m g ws = record { phase = SpringMoves; units = units_after_winter m g.owners ws g.units; dislodged = []; barred = []; owners = g.owners }

-- the game after one phase, with all that was written for it
abbrev pub turn : Board → Game → List Written → Game
turn m g ws = turn_in g.phase m g ws

unfoldable pub play : Board → List (List Written) → Game → Game
play m [] g = g
play m (ws ∷ turns) g = play m turns (turn m g ws)
