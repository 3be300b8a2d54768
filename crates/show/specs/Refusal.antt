-- A refusal as it is printed. Assumes nothing.
use Rattle.std.specs.Prelude.{ℕ, List, codes, decimal}
use Rattle.show.specs.Words.{then, end}

-- its number, and the line of the file, 0 for none
abbrev pub refusal_bytes : ℕ → ℕ → List ℕ
refusal_bytes number line = then (codes "refused") (then (decimal number) (then (codes "line") (end (decimal line))))
