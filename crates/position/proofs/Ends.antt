-- Good edges on at most 128 regions end below 128. Assumes nothing.
use Rattle.std.proofs.Common.{◌≡◌, ℕ, ◌<◌, ◌≤◌, Bool, true, false, ◌&&◌, leb, List, length, get_or, arith}
use Rattle.std.proofs.lemmas.Bool.{and_parts, ltb-true, leb-true}
use Rattle.values.specs.Fold.{all}
use Rattle.geography.specs.declared.links.Edge.{Edge}
use Rattle.geography.specs.Links.{Ends, no_edge}
use Rattle.board.specs.declared.region.Region.{Region}
use Rattle.board.specs.Board.{Board, on_board, can_stand, good_edge, good_board, is_power}
use Rattle.position.specs.Tables.{board_from}
use Rattle.position.proofs.Elements.{all-at}

pub stands_below : (m : Board) (fleet : Bool) (r : ℕ) → length m.regions ≤ 128 → can_stand m fleet r ≡ true → r < 128
stands_below m fleet r few h = let low = ltb-true r (length m.regions) (and_parts (on_board m r) _ h).0 in omega arith

pub ends_below : (m : Board) (fleet : Bool) (es : List Edge) → length m.regions ≤ 128 → all (good_edge m fleet) es ≡ true → Ends es
unfolding Ends
ends_below m fleet es few h k l =
    let good = and_parts (can_stand m fleet (get_or es k no_edge).one) _ (all-at (good_edge m fleet) es k no_edge h l) in (
      stands_below m fleet (get_or es k no_edge).one few good.0,
      stands_below m fleet (get_or es k no_edge).two few (and_parts (can_stand m fleet (get_or es k no_edge).two) _ good.1).0,
    )

module _ (rs : List Region) (march sail : List Edge) (good : good_board (board_from rs march sail) ≡ true) where
  abbrev m : Board
  m = board_from rs march sail

  few : length rs ≤ 128
  few = leb-true (length rs) 128 (and_parts (leb (length rs) 128) _ good).0

  edges : (all (good_edge m false) march && all (good_edge m true) sail) ≡ true
  edges = (and_parts (all (λ r. is_power r.home) rs) (all (good_edge m false) march && all (good_edge m true) sail) (and_parts (leb (length rs) 128) _ good).1).1

  pub good_march : Ends march
  good_march = ends_below m false march few (and_parts (all (good_edge m false) march) (all (good_edge m true) sail) edges).0

  pub good_sail : Ends sail
  good_sail = ends_below m true sail few (and_parts (all (good_edge m false) march) (all (good_edge m true) sail) edges).1
