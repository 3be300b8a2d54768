use Rattle.std.proofs.Common.{vec_items, subst, rules}
use Rattle.show.specs.Reports.{move_line, report_at}
use Rattle.show.specs.Tables.{Marked}
use Rattle.show.proofs.Marked.{marked_line_lem}
use Rattle.show.proofs.printer.Printer.push_moves.Goals as goal

pub returns : goal.returns
returns g c =
    let names = g.N.Named.named c.args.self.now.names.now in
    let xs = c.args.reports.now in
    let ws = c.args.texts.now in
    let table = vec_items c.in_ok-table.table in
    let marked = vec_items c.in_ok-marked.marked in
    let marks = subst (λ t. Marked marked t ws) c.as_slice-table.ensures.value c.in_ok-marked.ensures.1 in
    c.push_each.ensures (λ r. move_line names ws (report_at xs r))
    (λ r before after low byte told. let e = marked_line_lem names marked table ws xs r c.in_ok-table.ensures.1 marks byte in search rules)
