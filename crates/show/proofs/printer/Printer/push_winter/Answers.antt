use Rattle.std.proofs.Common.{◌++◌, None, vec_items, rules}
use Rattle.tables.specs.Stands.{first_at}
use Rattle.tables.proofs.Regions.{region_at}
use Rattle.show.specs.Game.{unit_at}
use Rattle.show.specs.Reports.{went_line, came_line}
use Rattle.show.proofs.printer.Printer.push_winter.Goals as goal

pub returns : goal.returns
returns g c =
    let names = g.N.Named.named c.args.self.now.names.now in
    c.push_each.ensures (λ r. went_line names (unit_at c.args.before.now r) (unit_at c.args.after.now r) ++ came_line names (unit_at c.args.before.now r) (unit_at c.args.after.now r))
    (λ r before after low byte told.
    let old = region_at None (first_at (λ u. u)) (vec_items c.in_ok-old.old) c.args.before.now r c.in_ok-old.ensures.1 byte in
    let new = region_at None (first_at (λ u. u)) (vec_items c.in_ok-new.new) c.args.after.now r c.in_ok-new.ensures.1 byte in
    search rules)
