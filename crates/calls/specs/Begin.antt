-- A board and a game from words, and the verdict on them. Assumes nothing.
use Rattle.std.specs.Prelude.{ℕ, ◌+◌, ◌*◌, Bool, cond, not, ◌&&◌, List, length, drop, ◌==◌, nat_le, nat_lt}
use Rattle.values.specs.Fold.{those, is_in}
use Rattle.geography.specs.declared.links.Edge.{Edge}
use Rattle.board.specs.declared.region.Kind.{Kind}
use Rattle.board.specs.declared.region.Kind.TheVariants.{Land, Coast, Sea}
use Rattle.board.specs.declared.region.Region.{Region}
use Rattle.board.specs.declared.unit.Unit.{Unit}
use Rattle.board.specs.Board.{Board, good_board, powers}
use Rattle.game.specs.declared.phase.Phase.{Phase}
use Rattle.game.specs.declared.phase.Phase.TheVariants.{SpringMoves, SpringRetreats, AutumnMoves, AutumnRetreats, Winter}
use Rattle.game.specs.declared.phase.Dislodged.{Dislodged}
use Rattle.game.specs.Game.{Game}
use Rattle.game.specs.Lawful.{lawful}
use Rattle.calls.specs.declared.verdict.Verdict.{Verdict}
use Rattle.calls.specs.declared.verdict.Verdict.TheVariants.{Accepted, Misfit, Unlawful}
use Rattle.calls.specs.Verdict.{is_accepted}
use Rattle.calls.specs.Words.{at, entries, every_entry, is_one, optional}

-- the counts in front: regions, edges for armies, edges for fleets, units
abbrev pub region_count : List ℕ → ℕ
region_count ws = at ws 0

abbrev pub march_count : List ℕ → ℕ
march_count ws = at ws 1

abbrev pub sail_count : List ℕ → ℕ
sail_count ws = at ws 2

abbrev pub unit_count : List ℕ → ℕ
unit_count ws = at ws 3

-- the words from each part on
abbrev pub region_words : List ℕ → List ℕ
region_words ws = drop 4 ws

abbrev pub march_words : List ℕ → List ℕ
march_words ws = drop (3 * region_count ws) (region_words ws)

abbrev pub sail_words : List ℕ → List ℕ
sail_words ws = drop (2 * march_count ws) (march_words ws)

abbrev pub unit_words : List ℕ → List ℕ
unit_words ws = drop (2 * sail_count ws) (sail_words ws)

abbrev pub owner_words : List ℕ → List ℕ
owner_words ws = drop (3 * unit_count ws) (unit_words ws)

abbrev pub phase_words : List ℕ → List ℕ
phase_words ws = drop (region_count ws) (owner_words ws)

abbrev pub out_count : List ℕ → ℕ
out_count ws = at (phase_words ws) 1

abbrev pub out_words : List ℕ → List ℕ
out_words ws = drop 2 (phase_words ws)

abbrev pub barred_words : List ℕ → List ℕ
barred_words ws = drop (4 * out_count ws) (out_words ws)

abbrev pub barred_count : List ℕ → ℕ
barred_count ws = at (barred_words ws) 0

-- there are just as many words as the counts say, and no count is above its limit
abbrev pub words_fit : List ℕ → Bool
words_fit ws =
    nat_le 4 (length ws) && (nat_le (region_count ws) 128 && (nat_le (march_count ws) 1024 && (nat_le (sail_count ws) 1024 && (nat_le (unit_count ws) 128 &&
    (nat_le (4 + 3 * region_count ws + 2 * march_count ws + 2 * sail_count ws + 3 * unit_count ws + region_count ws + 2) (length ws) && (nat_le (out_count ws) 128 &&
    (nat_le (4 * out_count ws + 1) (length (out_words ws)) && (nat_le (barred_count ws) 128 &&
    (length (barred_words ws) == 1 + barred_count ws)))))))))

-- ---- one entry of each part, and whether its words mean something
abbrev pub kind_in : ℕ → Kind
kind_in w = cond (w == 0) Land (cond (w == 1) Coast Sea)

abbrev pub region_in : List ℕ → Region
region_in ws = record { kind = kind_in (at ws 0); centre = is_one (at ws 1); home = optional (at ws 2) }

abbrev pub good_region : List ℕ → Bool
good_region ws = nat_lt (at ws 0) 3 && (nat_lt (at ws 1) 2 && nat_le (at ws 2) powers)

abbrev pub edge_in : List ℕ → Edge
edge_in ws = record { one = at ws 0; two = at ws 1 }

abbrev pub unit_in : List ℕ → Unit
unit_in ws = record { power = at ws 0; region = at ws 1; fleet = is_one (at ws 2) }

abbrev pub good_unit : List ℕ → Bool
good_unit ws = nat_lt (at ws 2) 2

abbrev pub dislodged_in : List ℕ → Dislodged
dislodged_in ws = record { unit = unit_in ws; from = optional (at ws 3) }

abbrev pub phase_in : ℕ → Phase
phase_in w = cond (w == 0) SpringMoves (cond (w == 1) SpringRetreats (cond (w == 2) AutumnMoves (cond (w == 3) AutumnRetreats Winter)))

-- ---- the whole
abbrev pub board_in : List ℕ → Board
board_in ws =
    record {
      regions = entries (region_count ws) 3 region_in (region_words ws);
      march = entries (march_count ws) 2 edge_in (march_words ws);
      sail = entries (sail_count ws) 2 edge_in (sail_words ws);
    }

abbrev pub game_in : List ℕ → Game
game_in ws =
    record {
      phase = phase_in (at (phase_words ws) 0);
      units = entries (unit_count ws) 3 unit_in (unit_words ws);
      dislodged = entries (out_count ws) 4 dislodged_in (out_words ws);
      barred = those (region_count ws) (λ r. is_in r (drop 1 (barred_words ws)));
      owners = entries (region_count ws) 1 (λ vs. optional (at vs 0)) (owner_words ws);
    }

-- each word is one that means something: a kind, 0 or 1, a power, a phase, a region of the board
abbrev pub words_mean : List ℕ → Bool
words_mean ws =
    every_entry (region_count ws) 3 good_region (region_words ws) && (every_entry (unit_count ws) 3 good_unit (unit_words ws) && (every_entry (region_count ws) 1 (λ vs. nat_le (at vs 0) powers) (owner_words ws) &&
    (nat_lt (at (phase_words ws) 0) 5 && (every_entry (out_count ws) 4 (λ vs. good_unit vs && nat_le (at vs 3) (region_count ws)) (out_words ws) &&
    every_entry (barred_count ws) 1 (λ vs. nat_lt (at vs 0) (region_count ws)) (drop 1 (barred_words ws))))))

-- first whether the words fit their counts, then whether board and game are lawful
abbrev pub begin_verdict : List ℕ → Verdict
begin_verdict ws = cond (not (words_fit ws)) Misfit (cond (not (words_mean ws && (good_board (board_in ws) && lawful (board_in ws) (game_in ws)))) Unlawful Accepted)

-- what is refused changes nothing
abbrev pub begin_board : Board → List ℕ → Board
begin_board m ws = cond (is_accepted (begin_verdict ws)) (board_in ws) m

abbrev pub begin_game : Game → List ℕ → Game
begin_game g ws = cond (is_accepted (begin_verdict ws)) (game_in ws) g
