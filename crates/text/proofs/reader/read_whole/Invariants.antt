use Rattle.std.proofs.Common.{◌≡◌}
use Rattle.text.specs.Lines.{lines_of, read_lines, read_file}
use Rattle.text.proofs.reader.read_whole.Given as goal

-- the lines that are left, read by what is known, give the whole
abbrev pub invariant-loop-line : goal.invariant-loop-line
invariant-loop-line g l =
    read_lines (g.R.Reader.step l.reader) l.line-iterator.number (g.R.Reader.known l.reader) (lines_of l.line-iterator.rest.now) ≡
    read_file (g.R.Reader.step l.fn.reader) (g.R.Reader.known l.fn.reader) l.text
