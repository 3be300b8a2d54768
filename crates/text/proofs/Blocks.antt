-- One line on, and the end, of a loop over the lines of orders. Assumes nothing.
use Rattle.std.proofs.Common.{◌≡◌, ℕ, ◌+◌, ◌<◌, List, [], ◌∷◌, ◌++◌, length, get_or, drop, append_assoc, append-nil}
use Rattle.std.proofs.lemmas.List.{drop_more, drop_all, take_rest, map_push}
use Rattle.text.specs.declared.orders_file.OrdersLine.{OrdersLine}
use Rattle.text.specs.declared.orders_file.OrdersLine.TheVariants.{Phase}

pub line_more : (lines : List OrdersLine) (i : ℕ) → i < length lines → drop i lines ≡ get_or lines i (Phase 0) ∷ drop (i + 1) lines
line_more lines i within = drop_more lines i (Phase 0) within

pub ruleset turns = (line_more, drop_all, append-nil, append_assoc, take_rest, map_push)
