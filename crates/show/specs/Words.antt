-- Names, powers and orders as they are printed. Assumes nothing.
use Rattle.std.specs.Prelude.{ℕ, ◌+◌, Bool, cond, List, [], ◌∷◌, ◌++◌, codes, nat_lt, slice_index_or}
use Rattle.board.specs.Board.{powers}
use Rattle.board.specs.declared.order.Order.{Order}
use Rattle.board.specs.declared.order.Order.TheVariants.{Hold, Move, SupportHold, SupportMove, Convoy}

-- the names of the regions, each as its bytes
abbrev pub Names : Type 0
Names = List (List ℕ)

abbrev pub name : Names → ℕ → List ℕ
name names r = slice_index_or names r []

-- powers are a to g; there is no other
abbrev pub letter : ℕ → List ℕ
letter p = cond (nat_lt p powers) (97 + p) 63 ∷ []

abbrev pub arm : Bool → List ℕ
arm fleet = cond fleet (codes "fleet") (codes "army")

-- a word and the words behind it, one space apart
abbrev pub then : List ℕ → List ℕ → List ℕ
then word rest = word ++ (codes " " ++ rest)

-- the last word of a line
abbrev pub end : List ℕ → List ℕ
end word = word ++ codes "\n"

abbrev pub order_words : Names → Order → List ℕ
order_words names Hold = codes "hold"
order_words names (Move to convoyed) = then (cond convoyed (codes "water") (codes "move")) (name names to)
order_words names (SupportHold at) = then (codes "holds") (name names at)
order_words names (SupportMove from to) = then (codes "helps") (then (name names from) (name names to))
order_words names (Convoy from to) = then (codes "carries") (then (name names from) (name names to))
