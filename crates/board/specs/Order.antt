-- Questions to an order. Assumes nothing.
use Rattle.std.specs.Prelude.{ℕ, Bool, true, false, ◌&&◌, ◌==◌}
use Rattle.board.specs.declared.order.Order.{Order}
use Rattle.board.specs.declared.order.Order.TheVariants.{Hold, Move, SupportHold, SupportMove, Convoy}

-- a move that ends in r
abbrev pub goes_to : ℕ → Order → Bool
goes_to r Hold = false
goes_to r (Move to convoyed) = to == r
goes_to r (SupportHold at) = false
goes_to r (SupportMove from to) = false
goes_to r (Convoy from to) = false

abbrev pub is_move : Order → Bool
is_move Hold = false
is_move (Move to convoyed) = true
is_move (SupportHold at) = false
is_move (SupportMove from to) = false
is_move (Convoy from to) = false

abbrev pub is_support : Order → Bool
is_support Hold = false
is_support (Move to convoyed) = false
is_support (SupportHold at) = true
is_support (SupportMove from to) = true
is_support (Convoy from to) = false

-- a move over water
abbrev pub is_convoyed : Order → Bool
is_convoyed Hold = false
is_convoyed (Move to convoyed) = convoyed
is_convoyed (SupportHold at) = false
is_convoyed (SupportMove from to) = false
is_convoyed (Convoy from to) = false

-- where a move ends; where a support is aimed
abbrev pub aim : Order → ℕ
aim Hold = 0
aim (Move to convoyed) = to
aim (SupportHold at) = at
aim (SupportMove from to) = to
aim (Convoy from to) = to

-- a support for just the move from f to t
abbrev pub supports_move : ℕ → ℕ → Order → Bool
supports_move f t Hold = false
supports_move f t (Move to convoyed) = false
supports_move f t (SupportHold at) = false
supports_move f t (SupportMove from to) = f == from && t == to
supports_move f t (Convoy from to) = false

-- a support for whoever stays in r
abbrev pub supports_hold : ℕ → Order → Bool
supports_hold r Hold = false
supports_hold r (Move to convoyed) = false
supports_hold r (SupportHold at) = r == at
supports_hold r (SupportMove from to) = false
supports_hold r (Convoy from to) = false

-- a convoy for just the army from f to t
abbrev pub convoys : ℕ → ℕ → Order → Bool
convoys f t Hold = false
convoys f t (Move to convoyed) = false
convoys f t (SupportHold at) = false
convoys f t (SupportMove from to) = false
convoys f t (Convoy from to) = f == from && t == to
