use Rattle.std.proofs.Common.{◌≡◌, ◌+◌, ◌-◌, ◌≤◌, vec_items, vec_len, vec_capacity}
use Rattle.board.specs.Atlas.{board_of}
use Rattle.assignment.specs.Places.{Inside}
use Rattle.assignment.specs.Lookup.{Indexed}
use Rattle.deciding.specs.Rounds.{rounds}
use Rattle.deciding.proofs.rounds.decide_all.Given as goal

abbrev pub invariant-loop : goal.invariant-loop
invariant-loop l =
    (rounds (vec_len l.initial.xs + 1 - l.counter) (board_of l.atlas) (vec_items l.xs) ≡ rounds (vec_len l.initial.xs + 1) (board_of l.atlas) (vec_items l.initial.xs)) ×
    (vec_len l.xs ≡ vec_len l.initial.xs) × (128 ≤ vec_capacity l.xs) × (128 ≤ vec_capacity l.spare) × (128 ≤ vec_capacity l.dislodged) × (128 ≤ vec_capacity l.paths) ×
    Inside (vec_items l.xs) × Indexed l.lookup (vec_items l.xs)
