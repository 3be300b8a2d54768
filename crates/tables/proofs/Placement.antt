-- A unit that stands on a good board is in a region below 128, and of a power below 7. Assumes nothing.
use Rattle.std.proofs.Common.{◌≡◌, ℕ, ◌<◌, ◌≤◌, true, cond, ◌&&◌, ltb, leb, List, length, get_or}
use Rattle.std.proofs.lemmas.Bool.{and_parts, ltb-true, leb-true}
use Rattle.values.specs.Fold.{all}
use Rattle.board.specs.declared.unit.Unit.{Unit}
use Rattle.board.specs.Board.{Board, good_board, stands, sailable, marchable, region_at}
use Rattle.tables.proofs.Folds.{no_unit, all-at}

pub board_small : (m : Board) → good_board m ≡ true → length m.regions ≤ 128
board_small m good = leb-true (length m.regions) 128 (and_parts (leb (length m.regions) 128) _ good).0

-- what one standing unit gives
pub record Placed (m : Board) (u : Unit) : Type 0 where
  pub on_the_board : u.region < length m.regions
  pub power : u.power < 7

placed : (m : Board) (u : Unit) → stands m u ≡ true → Placed m u
placed m u e =
    let kind = cond u.fleet (sailable (region_at m u.region).kind) (marchable (region_at m u.region).kind) in
    let parts = and_parts (ltb u.region (length m.regions) && kind) (ltb u.power 7) e in
    let there = and_parts (ltb u.region (length m.regions)) kind parts.0 in
    record { on_the_board = ltb-true u.region (length m.regions) there.0; power = ltb-true u.power 7 parts.1 }

pub stand_at : (m : Board) (us : List Unit) (i : ℕ) → all (stands m) us ≡ true → i < length us → Placed m (get_or us i no_unit)
stand_at m us i e h = placed m (get_or us i no_unit) (all-at (stands m) us i no_unit e h)
