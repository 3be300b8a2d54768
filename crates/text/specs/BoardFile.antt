-- A board's file: the forms of its lines, and what they come to. Assumes nothing.
use Rattle.std.specs.Prelude.{ℕ, ◌+◌, List, [], ◌∷◌, ◌++◌, vec_items, codes, Result}
use Rattle.std.specs.Option.{option_map}
use Rattle.text.specs.declared.refusal.Refusal.{Refusal}
use Rattle.text.specs.declared.board_file.BoardLine.{BoardLine}
use Rattle.text.specs.declared.board_file.BoardLine.TheVariants.{Region, March, Sail}
use Rattle.text.specs.declared.board_file.BoardFile.{BoardFile}
use Rattle.text.specs.Lines.{Step, read_file}
use Rattle.text.specs.Words.{Form, next, optional, end, nothing, new_name, place, kind, power}
use Rattle.text.specs.Names.{names_of}

-- ---- the forms of lines

-- one line as it is read
pub data Entry : Type 0 where
  RegionEntry : (name : List ℕ) (kind centre home : ℕ) → Entry
  MarchEntry : (one two : ℕ) → Entry
  SailEntry : (one two : ℕ) → Entry

-- [home P]
abbrev pub home_form : List ℕ → ℕ → ℕ → Form Entry
home_form name k c = optional (codes "home") (next power (λ p. end (RegionEntry name k c (p + 1)))) (end (RegionEntry name k c 0))

-- region NAME land|coast|sea [centre] [home P]
abbrev pub region_form : List (List ℕ) → Form Entry
region_form names = next (new_name names) (λ name. next kind (λ k. optional (codes "centre") (home_form name k 1) (home_form name k 0)))

-- NAME NAME
abbrev pub edge_form : List (List ℕ) → Form (ℕ × ℕ)
edge_form names = next (place names) (λ one. next (place names) (λ two. end (one, two)))

abbrev pub march_form : List (List ℕ) → Form Entry
march_form names words = option_map (λ edge. MarchEntry edge.0 edge.1) (edge_form names words)

abbrev pub sail_form : List (List ℕ) → Form Entry
sail_form names words = option_map (λ edge. SailEntry edge.0 edge.1) (edge_form names words)

abbrev pub board_form : List (List ℕ) → Form Entry
board_form names =
    optional (codes "region") (region_form names)
    (optional (codes "march") (march_form names)
    (optional (codes "sail") (sail_form names)
    nothing))

-- ---- the whole file

-- regions as three words each: kind, 1 for a centre, 0 or the power of the home plus 1; edges as two regions each
pub record BoardEntries : Type 0 where
  pub names : List (List ℕ)
  pub regions : List ℕ
  pub march : List ℕ
  pub sail : List ℕ

abbrev pub no_board : BoardEntries
no_board = record { names = []; regions = []; march = []; sail = [] }

abbrev pub with_entry : BoardEntries → Entry → BoardEntries
with_entry b (RegionEntry name k c h) = record { names = b.names ++ name ∷ []; regions = b.regions ++ k ∷ c ∷ h ∷ []; march = b.march; sail = b.sail }
with_entry b (MarchEntry one two) = record { names = b.names; regions = b.regions; march = b.march ++ one ∷ two ∷ []; sail = b.sail }
with_entry b (SailEntry one two) = record { names = b.names; regions = b.regions; march = b.march; sail = b.sail ++ one ∷ two ∷ [] }

-- a line names regions of the lines above it
abbrev pub board_step : Step BoardEntries
board_step b words = option_map (with_entry b) (board_form b.names words)

abbrev pub board_file : List ℕ → Result BoardEntries Refusal
board_file bytes = read_file board_step no_board bytes

-- ---- what the code holds
abbrev pub entry_of : BoardLine → Entry
entry_of (Region name k c h) = RegionEntry name.now k c h
entry_of (March one two) = MarchEntry one two
entry_of (Sail one two) = SailEntry one two

abbrev pub board_entries : BoardFile → BoardEntries
board_entries b = record { names = names_of b.names; regions = vec_items b.regions; march = vec_items b.march; sail = vec_items b.sail }
