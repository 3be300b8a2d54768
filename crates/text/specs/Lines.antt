-- A file's bytes as lines, a line as words, and a file read line by line. Assumes nothing.
use Rattle.std.specs.Prelude.{ℕ, suc, ◌+◌, Bool, false, cond, List, [], ◌∷◌, length, Some, None, Ok, Err, Option, Result, ◌==◌, nat_lt}
use Rattle.text.specs.declared.refusal.Refusal.{Refusal}
use Rattle.text.specs.Refusal.{unreadable, misfit}

-- a byte in front of the first part
abbrev pub join_first : ℕ → List (List ℕ) → List (List ℕ)
join_first b [] = (b ∷ []) ∷ []
join_first b (part ∷ parts) = (b ∷ part) ∷ parts

-- a newline ends a line, and so does the end of the file; an empty file has no line
unfoldable pub lines_of : List ℕ → List (List ℕ)
lines_of [] = []
lines_of (b ∷ bs) = cond (b == 10) ([] ∷ lines_of bs) (join_first b (lines_of bs))

-- words stand one space apart: with two spaces, or one at an end, there is an empty word
unfoldable pub words_of : List ℕ → List (List ℕ)
words_of [] = [] ∷ []
words_of (b ∷ bs) = cond (b == 32) ([] ∷ words_of bs) (join_first b (words_of bs))

-- how many bytes stand before the first of this value
unfoldable pub part_length : ℕ → List ℕ → ℕ
part_length sep [] = 0
part_length sep (b ∷ bs) = cond (b == sep) 0 (suc (part_length sep bs))

-- a line that begins with # says nothing
abbrev pub is_remark : List ℕ → Bool
is_remark [] = false
is_remark (b ∷ bs) = b == 35

-- a line of more than 256 bytes is of no known form, whatever it begins with
abbrev pub is_long : List ℕ → Bool
is_long line = nat_lt 256 (length line)

-- a form says what is known after a line's words, if they are of this form, by what was known before
abbrev pub Step : Type 0 → Type 0
Step S = S → List (List ℕ) → Option S

abbrev pub line_read : {S : Type 0} → Step S → S → List ℕ → Option S
line_read form known line = cond (is_long line) None (cond (is_remark line) (Some known) (form known (words_of line)))

abbrev pub go_on : {S : Type 0} → ℕ → Option S → (S → Result S Refusal) → Result S Refusal
go_on line None others = Err (unreadable line)
go_on line (Some known) others = others known

-- line after line, counted; the first that can't be read ends the reading
unfoldable pub read_lines : {S : Type 0} → Step S → ℕ → S → List (List ℕ) → Result S Refusal
read_lines form n known [] = Ok known
read_lines form n known (line ∷ lines) = go_on n (line_read form known line) (λ more. read_lines form (n + 1) more lines)

abbrev pub is_long_file : List ℕ → Bool
is_long_file bytes = nat_lt 1048576 (length bytes)

-- a file of more than 1,048,576 bytes is refused before a line of it is read
abbrev pub read_file : {S : Type 0} → Step S → S → List ℕ → Result S Refusal
read_file form start bytes = cond (is_long_file bytes) (Err misfit) (read_lines form 1 start (lines_of bytes))
