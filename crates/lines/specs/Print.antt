-- A line of a key and words. Assumes nothing.
use Rattle.std.specs.Prelude.{ℕ, List, ◌++◌, codes, decimal}
use Rattle.values.specs.Fold.{each}

abbrev pub word_bytes : ℕ → List ℕ
word_bytes w = codes " " ++ decimal w

abbrev pub line_bytes : List ℕ → List ℕ → List ℕ
line_bytes key ws = key ++ (each word_bytes ws ++ codes "\n")
