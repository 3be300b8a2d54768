-- What the code asks of words before it makes entries of them; and board and game as the parts give them. Assumes nothing.
use Rattle.std.specs.Prelude.{ℕ, Bool, ◌&&◌, List, map, length, nat_le, nat_lt}
use Rattle.values.specs.Fold.{all, those, is_in}
use Rattle.board.specs.Board.{Board, good_board, powers}
use Rattle.game.specs.Game.{Game}
use Rattle.game.specs.Lawful.{lawful}
use Rattle.calls.specs.declared.sections.Sections.{Sections}
use Rattle.calls.specs.Words.{at, optional}
use Rattle.calls.specs.Begin.{region_in, good_region, edge_in, unit_in, good_unit, dislodged_in, phase_in}

-- both ends of an edge on a board of n regions
abbrev pub ends_on : ℕ → List ℕ → Bool
ends_on n ws = nat_lt (at ws 0) n && nat_lt (at ws 1) n

-- a unit of a power that there is, on a board of n regions
abbrev pub unit_on : ℕ → List ℕ → Bool
unit_on n ws = good_unit ws && (nat_lt (at ws 0) powers && nat_lt (at ws 1) n)

-- with the region that an attack came from, if any
abbrev pub out_on : ℕ → List ℕ → Bool
out_on n ws = unit_on n ws && nat_le (at ws 3) n

abbrev pub board_parts : Sections → Board
board_parts s = record { regions = map region_in s.front.regions.now; march = map edge_in s.front.march.now; sail = map edge_in s.front.sail.now }

abbrev pub game_parts : Sections → Game
game_parts s =
    record {
      phase = phase_in s.phase;
      units = map unit_in s.front.units.now;
      dislodged = map dislodged_in s.dislodged.now;
      barred = those (length s.front.regions.now) (λ r. is_in r s.barred.now);
      owners = map (λ vs. optional (at vs 0)) s.front.owners.now;
    }

-- the words of the board mean something, and it is good
abbrev pub board_good : Sections → Bool
board_good s = all good_region s.front.regions.now && good_board (board_parts s)

-- the words of the game mean something
abbrev pub game_means : Sections → Bool
game_means s =
    all good_unit s.front.units.now && (all (λ vs. nat_le (at vs 0) powers) s.front.owners.now &&
    (nat_lt s.phase 5 && (all (λ vs. good_unit vs && nat_le (at vs 3) (length s.front.regions.now)) s.dislodged.now &&
    all (λ w. nat_lt w (length s.front.regions.now)) s.barred.now)))

-- and it is lawful on the board
abbrev pub game_good : Board → Sections → Bool
game_good m s = game_means s && lawful m (game_parts s)
