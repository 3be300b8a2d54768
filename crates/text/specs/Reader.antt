-- What readers of a line and of its words answer. Assumes nothing.
use Rattle.std.specs.Prelude.{◌≡◌, ℕ, true, false, cond, List, [], Some, None, Ok, Err, Option, Result}
use Rattle.text.specs.declared.refusal.Refusal.{Refusal}
use Rattle.text.specs.declared.words.Words.{Words}
use Rattle.text.specs.Refusal.{unreadable}
use Rattle.text.specs.Lines.{words_of, is_long, is_remark}

-- the words that are still to be read
abbrev pub left : Words → List (List ℕ)
left words = cond words.more (words_of words.rest.now) []

-- a line is refused, or says nothing, or has words
abbrev pub Says : List ℕ → ℕ → Result (Option Words) Refusal → Type 0
Says line number (Err e) = (is_long line ≡ true) × (e ≡ unreadable number)
Says line number (Ok None) = (is_long line ≡ false) × (is_remark line ≡ true)
Says line number (Ok (Some words)) = (is_long line ≡ false) × (is_remark line ≡ false) × (left words ≡ words_of line) × (words.line ≡ number)
