-- Lines taken from a text, one by one. Assumes nothing.
use Rattle.std.specs.Prelude.{◌≡◌, ◌+◌, [], ◌∷◌, Some, None, Option}
use Rattle.text.specs.declared.lines.Line.{Line}
use Rattle.text.specs.declared.lines.Lines.{Lines}
use Rattle.text.specs.Lines.{lines_of}

-- one line more is taken, with its number, until none is left
abbrev pub TakesLine : Lines → Option Line → Lines → Type 0
TakesLine before None after = lines_of before.rest.now ≡ []
TakesLine before (Some line) after = (lines_of before.rest.now ≡ line.bytes.now ∷ lines_of after.rest.now) × (line.number ≡ before.number) × (after.number ≡ before.number + 1)
