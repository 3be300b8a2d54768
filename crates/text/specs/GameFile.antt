-- A game's file: the forms of its lines, and what they come to. Assumes nothing.
use Rattle.std.specs.Prelude.{ℕ, ◌+◌, cond, List, [], ◌∷◌, ◌++◌, length, replicate, is_some, Some, None, vec_items, codes, Option, Result, ◌==◌, slice_index, slice_set}
use Rattle.std.specs.Option.{option_map}
use Rattle.text.specs.declared.refusal.Refusal.{Refusal}
use Rattle.text.specs.declared.game_file.GameLine.{GameLine}
use Rattle.text.specs.declared.game_file.GameLine.TheVariants.{Phase, Standing, Out, Barred, Owner}
use Rattle.text.specs.declared.game_file.GameFile.{GameFile}
use Rattle.text.specs.Lines.{Step, read_file}
use Rattle.text.specs.Words.{Form, next, optional, end, nothing, onward, place, arm, power, phase_alone}

-- ---- the forms of lines

-- N
abbrev pub phase_form : Form GameLine
phase_form words = option_map Phase (phase_alone words)

-- P army|fleet NAME
abbrev pub unit_form : List (List ℕ) → Form GameLine
unit_form names = next power (λ p. next arm (λ fleet. next (place names) (λ r. end (Standing p r fleet))))

-- P army|fleet NAME [from NAME]
abbrev pub out_form : List (List ℕ) → Form GameLine
out_form names =
    next power (λ p. next arm (λ fleet. next (place names) (λ r.
    optional (codes "from") (next (place names) (λ from. end (Out p r fleet (Some from)))) (end (Out p r fleet None)))))

-- NAME
abbrev pub barred_form : List (List ℕ) → Form GameLine
barred_form names = next (place names) (λ r. end (Barred r))

-- P NAME
abbrev pub owner_form : List (List ℕ) → Form GameLine
owner_form names = next power (λ p. next (place names) (λ r. end (Owner (p + 1) r)))

abbrev pub game_form : List (List ℕ) → Form GameLine
game_form names =
    optional (codes "phase") phase_form
    (optional (codes "unit") (unit_form names)
    (optional (codes "out") (out_form names)
    (optional (codes "barred") (barred_form names)
    (optional (codes "owner") (owner_form names)
    nothing))))

-- ---- the whole file

-- units as three words each: power, region, 1 for a fleet; those dislodged as four, the last 0 or one more than the
-- region that the attack came from; for each region its owner's power plus 1, or 0
pub record GameEntries : Type 0 where
  pub phase : Option ℕ
  pub units : List ℕ
  pub outs : List ℕ
  pub barred : List ℕ
  pub owners : List ℕ

abbrev pub no_game : ℕ → GameEntries
no_game regions = record { phase = None; units = []; outs = []; barred = []; owners = replicate regions 0 }

abbrev pub from_word : Option ℕ → ℕ
from_word None = 0
from_word (Some r) = r + 1

-- a second phase, or a second owner of a region, is of no known form
abbrev pub with_line : GameEntries → GameLine → Option GameEntries
with_line g (Phase n) = cond (is_some g.phase) None (Some (record { phase = Some n; units = g.units; outs = g.outs; barred = g.barred; owners = g.owners }))
with_line g (Standing p r fleet) = Some (record { phase = g.phase; units = g.units ++ p ∷ r ∷ fleet ∷ []; outs = g.outs; barred = g.barred; owners = g.owners })
with_line g (Out p r fleet from) = Some (record { phase = g.phase; units = g.units; outs = g.outs ++ p ∷ r ∷ fleet ∷ from_word from ∷ []; barred = g.barred; owners = g.owners })
with_line g (Barred r) = Some (record { phase = g.phase; units = g.units; outs = g.outs; barred = g.barred ++ r ∷ []; owners = g.owners })
with_line g (Owner w r) = cond (slice_index g.owners r == 0) (Some (record { phase = g.phase; units = g.units; outs = g.outs; barred = g.barred; owners = slice_set g.owners r w })) None

abbrev pub game_step : List (List ℕ) → Step GameEntries
game_step names g words = onward (game_form names words) (with_line g)

abbrev pub game_file : List (List ℕ) → List ℕ → Result GameEntries Refusal
game_file names bytes = read_file (game_step names) (no_game (length names)) bytes

-- what the code holds
abbrev pub game_entries : GameFile → GameEntries
game_entries g = record { phase = g.phase; units = vec_items g.units; outs = vec_items g.outs; barred = vec_items g.barred; owners = vec_items g.owners }
