-- A file of orders: the forms of its lines, and the blocks of texts that they make. Assumes nothing.
use Rattle.std.specs.Prelude.{ℕ, List, [], ◌∷◌, ◌++◌, map, Some, None, Ok, Err, vec_items, codes, Option, Result, Vec}
use Rattle.std.specs.declared.alloc.Global.{Global}
use Rattle.std.specs.Option.{option_map}
use Rattle.text.specs.declared.refusal.Refusal.{Refusal}
use Rattle.text.specs.declared.orders_file.Command.{Command}
use Rattle.text.specs.declared.orders_file.OrdersLine.{OrdersLine}
use Rattle.text.specs.declared.orders_file.OrdersLine.TheVariants.{Phase, Text}
use Rattle.text.specs.declared.orders_file.Block.{Block}
use Rattle.text.specs.Lines.{Step, read_file}
use Rattle.text.specs.Words.{Form, next, optional, end, nothing, place, power, phase_alone}

-- ---- the forms of lines

-- N
abbrev pub phase_form : Form OrdersLine
phase_form words = option_map Phase (phase_alone words)

-- no name, one or two behind the kind
abbrev pub command : ℕ → ℕ → ℕ → Command
command kind a b = record { kind = kind; one = a; two = b }

abbrev pub plain_form : ℕ → Form Command
plain_form kind = end (command kind 0 0)

abbrev pub aimed_form : List (List ℕ) → ℕ → Form Command
aimed_form names kind = next (place names) (λ a. end (command kind a 0))

abbrev pub pair_form : List (List ℕ) → ℕ → Form Command
pair_form names kind = next (place names) (λ a. next (place names) (λ b. end (command kind a b)))

-- hold | move NAME | water NAME | holds NAME | helps NAME NAME | carries NAME NAME | army | fleet | gone
abbrev pub command_form : List (List ℕ) → Form Command
command_form names =
    optional (codes "hold") (plain_form 0)
    (optional (codes "move") (aimed_form names 1)
    (optional (codes "water") (aimed_form names 2)
    (optional (codes "holds") (aimed_form names 3)
    (optional (codes "helps") (pair_form names 4)
    (optional (codes "carries") (pair_form names 5)
    (optional (codes "army") (plain_form 6)
    (optional (codes "fleet") (plain_form 7)
    (optional (codes "gone") (plain_form 8)
    nothing))))))))

-- P NAME and a command
abbrev pub text_form : List (List ℕ) → Form OrdersLine
text_form names = next power (λ p. next (place names) (λ r. λ words. option_map (Text p r) (command_form names words)))

-- a line whose first word is phase is a phase line or of no known form
abbrev pub orders_form : List (List ℕ) → Form OrdersLine
orders_form names = optional (codes "phase") phase_form (text_form names)

abbrev pub orders_step : List (List ℕ) → Step (List OrdersLine)
orders_step names lines words = option_map (λ line. lines ++ line ∷ []) (orders_form names words)

abbrev pub orders_lines : List (List ℕ) → List ℕ → Result (List OrdersLine) Refusal
orders_lines names bytes = read_file (orders_step names) [] bytes

-- ---- blocks

-- the texts before the next phase line, five words each: power, region, kind, and two regions, 0 where there is none
unfoldable pub texts : List OrdersLine → List ℕ
texts [] = []
texts (Phase n ∷ lines) = []
texts (Text p r c ∷ lines) = p ∷ r ∷ c.kind ∷ c.one ∷ c.two ∷ texts lines

-- texts with their phase; None is the phase of the game as it began
pub record Texts : Type 0 where
  pub phase : Option ℕ
  pub words : List ℕ

abbrev pub block_of : Option ℕ → List ℕ → Texts
block_of n ws = record { phase = n; words = ws }

-- texts before any phase line make a block, if there are any
unfoldable pub opening : List OrdersLine → List Texts
opening [] = []
opening (Phase n ∷ lines) = []
opening (Text p r c ∷ lines) = block_of None (texts (Text p r c ∷ lines)) ∷ []

-- each phase line begins a block, if only an empty one
unfoldable pub phases : List OrdersLine → List Texts
phases [] = []
phases (Phase n ∷ lines) = block_of (Some n) (texts lines) ∷ phases lines
phases (Text p r c ∷ lines) = phases lines

abbrev pub blocks : List OrdersLine → List Texts
blocks lines = opening lines ++ phases lines

abbrev pub blocks_read : Result (List OrdersLine) Refusal → Result (List Texts) Refusal
blocks_read (Ok lines) = Ok (blocks lines)
blocks_read (Err e) = Err e

abbrev pub orders_file : List (List ℕ) → List ℕ → Result (List Texts) Refusal
orders_file names bytes = blocks_read (orders_lines names bytes)

-- what the code holds
abbrev pub lines_in : Vec OrdersLine Global → List OrdersLine
lines_in lines = vec_items lines

abbrev pub texts_of : Block → Texts
texts_of block = record { phase = block.phase; words = vec_items block.words }

abbrev pub blocks_in : Vec Block Global → List Texts
blocks_in read = map texts_of (vec_items read)
