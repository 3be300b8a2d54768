-- How many units each power has. Assumes nothing.
use Rattle.std.specs.Prelude.{◌≡◌, ℕ, ◌≤◌, true, List, ◌++◌, ◌≢◌}
use Rattle.board.specs.Board.{Board}
use Rattle.board.specs.declared.unit.Unit.{Unit}
use Rattle.game.specs.declared.phase.Phase.TheVariants.{Winter}
use Rattle.game.specs.declared.text.Written.{Written}
use Rattle.game.specs.Game.{Game, is_moves}
use Rattle.game.specs.Lawful.{units_in, Lawful}
use Rattle.game.specs.Turn.{turn}
use Rattle.game.specs.Winter.{units_of, centres_of}

-- all units of a game, those dislodged too
abbrev pub forces : Game → List Unit
forces g = g.units ++ units_in g.dislodged

-- nobody gains a unit but in winter
abbrev pub NobodyGains : Type 0
NobodyGains = (m : Board) (g : Game) (ws : List Written) → (g.phase ≢ Winter) → (p : ℕ) → units_of p (forces (turn m g ws)) ≤ units_of p (forces g)

-- and moves lose nobody: whoever is dislodged still waits
abbrev pub MovesLoseNobody : Type 0
MovesLoseNobody = (m : Board) (g : Game) (ws : List Written) → Lawful m g → is_moves g.phase ≡ true → (p : ℕ) → units_of p (forces (turn m g ws)) ≡ units_of p (forces g)

-- after a winter nobody has more units than centres
abbrev pub WinterBalances : Type 0
WinterBalances = (m : Board) (g : Game) (ws : List Written) → Lawful m g → g.phase ≡ Winter → (p : ℕ) → units_of p (forces (turn m g ws)) ≤ centres_of p (turn m g ws).owners
