use Rattle.std.proofs.Common.{None, vec_items, rules}
use Rattle.tables.specs.Stands.{first_at}
use Rattle.tables.proofs.Regions.{region_at}
use Rattle.show.specs.Game.{out_line, dislodged_at}
use Rattle.show.proofs.printer.Printer.push_outs.Goals as goal

pub returns : goal.returns
returns g c =
    c.push_each.ensures (λ r. out_line (g.N.Named.named c.args.self.now.names.now) (dislodged_at c.args.dislodged.now r))
    (λ r before after low byte told. let e = region_at None (first_at (λ d. d.unit)) (vec_items c.in_ok-table.table) c.args.dislodged.now r c.in_ok-table.ensures.1 byte in search rules)
