-- The main promise, whole: of one phase, of every game, and of every sequence of calls. Assumes nothing.
use Rattle.std.specs.Prelude.{◌≡◌, true, ◌↔◌, ◌⊎◌, ℕ, ◌<◌, ◌≤◌}
use mathlib.Core.List.{List, Memᴰ}
use Rattle.values.specs.Shuffle.{Shuffled}
use Rattle.board.specs.Board.{Board, good_board, powers}
use Rattle.board.specs.declared.unit.Unit.{Unit}
use Rattle.deciding.specs.Outcome.{outcome, reports}
use Rattle.deciding_laws.specs.Promises.{DecidingPromises}
use Rattle.game.specs.declared.phase.Phase.TheVariants.{AutumnRetreats, Winter}
use Rattle.game.specs.declared.phase.Dislodged.{Dislodged}
use Rattle.game.specs.declared.text.Written.{Written}
use Rattle.game.specs.Game.{Game, is_moves, is_retreats, next}
use Rattle.game.specs.Lawful.{Lawful, lawful}
use Rattle.game.specs.Texts.{ordered}
use Rattle.game.specs.Turn.{turn, play}
use Rattle.game.specs.Winter.{units_of, centres_of}
use Rattle.year_laws.specs.Kept.{Bounded}
use Rattle.year_laws.specs.Counts.{forces}
use Rattle.year_laws.specs.MoveLaw.{StandsAfter, WaitsAfter}
use Rattle.year_laws.specs.BarredLaw.{Bounced}
use Rattle.year_laws.specs.RetreatLaw.{Arrived}
use Rattle.year_laws.specs.OwnerLaw.{OwnersAfter}
use Rattle.year_laws.specs.WinterLaw.{PowerWinter}
use Rattle.order_laws.specs.Edges.{Redrawn, SameBoard}
use Rattle.order_laws.specs.Turns.{AlikeGames, AlikeTurns, SameTurn, SamePlay}
use Rattle.calls.specs.declared.verdict.Verdict.TheVariants.{Accepted}
use Rattle.calls.specs.Begin.{begin_verdict, board_in, game_in}
use Rattle.calls.specs.Turn.{turn_verdict, texts_in}
use Rattle.promise.specs.Calls as call
use Rattle.promise.specs.Calls.{Call, State, start, verdict, answer, answered}

-- ---- one phase
-- What is promised of a phase of moves.
pub record MovesPromise (m : Board) (g : Game) (ws : List Written) : Type 0 where
  -- The answers keep the plain rules; what is decided is necessary; without rings they are the only answers; whoever is dislodged is so by one foreign move; what is told is the answers.
  pub decided : DecidingPromises m (ordered g.units ws)
  -- There stand just those whom nobody dislodged, where their moves took them or where they were.
  pub standing : (u : Unit) → Memᴰ u (turn m g ws).units ↔ StandsAfter (outcome m (ordered g.units ws)) u
  -- Just those wait to retreat into whose region another moved while they stayed, each with the region that the attack came from.
  pub waiting : (d : Dislodged) → Memᴰ d (turn m g ws).dislodged ↔ WaitsAfter (outcome m (ordered g.units ws)) d
  -- Just those regions are barred to which some move with a path came to nothing.
  pub barred : (r : ℕ) → Memᴰ r (turn m g ws).barred ↔ Bounced m (outcome m (ordered g.units ws)) r
  -- Each power has as many units as before, those who wait among them.
  pub nobody_lost : (p : ℕ) → units_of p (forces (turn m g ws)) ≡ units_of p (forces g)

-- What is promised of one phase that is played from g, whatever is written.
pub record TurnPromise (m : Board) (g : Game) (ws : List Written) : Type 0 where
  -- The phases follow one another; none is left out.
  pub phase : (turn m g ws).phase ≡ next g.phase
  -- The game after it is lawful: no two units in one region, none where its kind can't be, an owner only for a centre.
  pub kept : Lawful m (turn m g ws)
  -- Moves are decided as they should be, and everybody is where they took him.
  pub moves : is_moves g.phase ≡ true → MovesPromise m g ws
  -- After retreats there stand just those who stood before, and those dislodged who survived.
  pub retreats : is_retreats g.phase ≡ true → (u : Unit) → Memᴰ u (turn m g ws).units ↔ (Memᴰ u g.units ⊎ Arrived m g ws u)
  -- After the autumn's retreats a centre belongs to whoever stands on it, else to whom it belonged.
  pub taken : g.phase ≡ AutumnRetreats → OwnersAfter m g (turn m g ws)
  -- At no other time does a centre change hands.
  pub untaken : (g.phase ≡ AutumnRetreats → ⊥) → (turn m g ws).owners ≡ g.owners
  -- In winter each power loses just those that are too many, in their order, or gets just what it may build and lacks.
  pub winter : g.phase ≡ Winter → (p : ℕ) → p < powers → PowerWinter m g ws p (turn m g ws).units
  -- After a winter nobody has more units than centres.
  pub balanced : g.phase ≡ Winter → (p : ℕ) → units_of p (forces (turn m g ws)) ≤ centres_of p (turn m g ws).owners
  -- Nobody gains a unit but in winter.
  pub nobody_gains : (g.phase ≡ Winter → ⊥) → (p : ℕ) → units_of p (forces (turn m g ws)) ≤ units_of p (forces g)
  -- With units, those dislodged, barred regions, texts and edges in any order, the game after it is the same, and so is what is told of each unit.
  pub any_order : (n : Board) (h : Game) (vs : List Written) → SameBoard m n → AlikeGames g h → Shuffled Written ws vs → SameTurn m n g h ws vs

-- ---- a game on its board, and what comes of it
pub record GamePromise (m : Board) (g : Game) : Type 0 where
  -- The board is good and the game lawful.
  pub good : good_board m ≡ true
  pub stands : Lawful m g
  -- There are no more units than regions, and every number in it is one that there is.
  pub bounded : Bounded m g
  -- Whatever is written next, all that is promised of a phase is so.
  pub turns : (ws : List Written) → TurnPromise m g ws

-- ---- calls
-- An accepted turn plays just its texts, tells of moves just what was decided, and leaves the board.
pub record Played (s : State) (ws : List ℕ) : Type 0 where
  pub board : (answer s (call.turn ws)).board ≡ s.board
  pub game : (answer s (call.turn ws)).game ≡ turn s.board s.game (texts_in ws)
  pub told : is_moves s.game.phase ≡ true → (answer s (call.turn ws)).last ≡ reports s.board (ordered s.game.units (texts_in ws))
  pub promised : TurnPromise s.board s.game (texts_in ws)

pub record StatePromise (s : State) : Type 0 where
  -- The board is good, the game lawful, and whatever is written next keeps the promise.
  pub stands : GamePromise s.board s.game
  -- An accepted beginning puts its own board and game there.
  pub begun : (ws : List ℕ) → begin_verdict ws ≡ Accepted → answer s (call.begin ws) ≡ record { board = board_in ws; game = game_in ws; last = s.last }
  -- An accepted turn is a phase played from the game there.
  pub played : (ws : List ℕ) → turn_verdict s.board ws ≡ Accepted → Played s ws

-- ---- THE MAIN PROMISE
pub record MainPromise : Type 0 where
  -- From every lawful game on every good board, after any number of phases with anything written, the game reached is lawful and the next phase keeps its promise.
  pub games : (m : Board) (g : Game) (turns : List (List Written)) → good_board m ≡ true → lawful m g ≡ true → GamePromise m (play m turns g)
  -- The game reached is the same, whatever the order of units, of those dislodged, of barred regions, of the texts of each phase and of edges.
  pub any_order :
      (m n : Board) (g h : Game) (ts us : List (List Written)) → SameBoard m n → good_board m ≡ true → lawful m g ≡ true → AlikeGames g h → AlikeTurns ts us →
      SamePlay m n (play m ts g) (play n us h)
  -- Two boards are the same if their regions are, and their edges but for their order, turned round or doubled.
  pub any_drawing : (m n : Board) → m.regions ≡ n.regions → Redrawn m.march n.march → Redrawn m.sail n.sail → SameBoard m n
  -- The test of what is lawful says just what the named facts say.
  pub tested : (m : Board) (g : Game) → (lawful m g ≡ true) ↔ Lawful m g
  -- A beginning is accepted only if its board is good and its game lawful.
  pub begins : (ws : List ℕ) → begin_verdict ws ≡ Accepted → GamePromise (board_in ws) (game_in ws)
  -- Whatever stands, a call that is refused changes nothing: not the board, not the game, not what was told last.
  pub refused : (s : State) (c : Call) → (verdict s c ≡ Accepted → ⊥) → answer s c ≡ s
  -- After any calls, accepted or refused, from the first on: what stands keeps the promise.
  pub calls : (cs : List Call) → StatePromise (answered start cs)

-- the part that the call `turn` keeps, for its contract
abbrev pub TurnKept : Type 0
TurnKept = (m : Board) (g : Game) (ws : List Written) → good_board m ≡ true → lawful m g ≡ true → TurnPromise m g ws
