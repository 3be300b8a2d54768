use Rattle.std.proofs.Common.{◌∙◌}
use Rattle.std.proofs.lemmas.Result.{err_from_is_err_and}
use Rattle.text.specs.Lines.{lines_of, read_lines}
use Rattle.text.proofs.Reading.{read_end, read_on, read_fault}
use Rattle.text.proofs.reader.read_whole.Goals as goal

pub loop-line-preserved : goal.loop-line-preserved
loop-line-preserved g c =
    let told = c.in-Some.ensures.steps in
    let known = g.R.Reader.known in
    let l = c.loop-line in
    (λ i. read_lines (c.read.ensures.step i) (told.2 i) (known c.read.new.self) (lines_of c.next.new.self.rest.now)) ∙
    read_on (g.R.Reader.step l.reader) l.line-iterator.number (known l.reader) l.line-iterator.rest.now _ l.invariant c.in-Some.line.bytes.now c.next.new.self.rest.now told.0 (known c.read.new.self) c.in_ok-read.ensures.line

pub returns-in_err-read : goal.returns-in_err-read
returns-in_err-read g c =
    let told = c.in-Some.ensures.steps in
    let known = g.R.Reader.known in
    let l = c.loop-line in
    let p = err_from_is_err_and c.from_residual-in_err-read.result c.from_residual-in_err-read.ensures.1 in
    rw (p.1, p.2) (read_fault (g.R.Reader.step l.reader) l.line-iterator.number (known l.reader) l.line-iterator.rest.now _ l.invariant c.in-Some.line.bytes.now c.next.new.self.rest.now told.0 known (known c.read.new.self) c.in-Some.line.number c.in_err-read.field-0.0 told.1 c.in_err-read.ensures.line)

pub returns : goal.returns
returns g c =
    let l = c.loop-line in
    read_end (g.R.Reader.step l.reader) l.line-iterator.number (g.R.Reader.known l.reader) l.line-iterator.rest.now _ l.invariant c.in-None.ensures.steps
