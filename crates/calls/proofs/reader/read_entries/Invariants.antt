use Rattle.std.proofs.Common.{◌≡◌, ◌++◌, map, drop, vec_items}
use Rattle.values.specs.Fold.{all}
use Rattle.calls.proofs.reader.read_entries.Given as goal

-- what is left is good where all is, and comes after what was read
abbrev pub invariant-loop-words : goal.invariant-loop-words
invariant-loop-words g l =
    (all (g.R.Reader.good l.reader) (drop l.words-index l.entries) ≡ all (g.R.Reader.good l.reader) l.entries)
    × (vec_items l.out ++ map (g.R.Reader.meant l.reader) (drop l.words-index l.entries) ≡ map (g.R.Reader.meant l.reader) l.entries)
