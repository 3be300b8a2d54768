use Rattle.std.proofs.Common.{◌/◌, length, ap, ◌∙◌}
use Rattle.std.specs.Simd.{first_chunks}
use Rattle.calls.proofs.Entries.{chunks_front}
use Rattle.calls.proofs.sections.part.Goals as goal

pub returns-clause-entries : goal.returns-clause-entries
returns-clause-entries g c =
    c.as_chunks.ensures.front ∙ ap (λ xs. first_chunks g.row.N (length xs / g.row.N) xs) c.split_at.ensures.front ∙ chunks_front g.row.N c.args.count c.args.words.now c.requires.some c.requires.room
