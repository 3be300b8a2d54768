use Rattle.std.proofs.Common.{rules}
use Rattle.values.specs.Fold.{is_in, those}
use Rattle.geography.specs.RegionSet.{has}
use Rattle.show.specs.Game.{barred_line}
use Rattle.show.proofs.Lines.{is_in_those}
use Rattle.show.proofs.printer.Printer.push_barred_set.Goals as goal

pub returns : goal.returns
returns g c =
    let n = c.args.self.now.regions in
    c.push_each.ensures (λ r. barred_line (g.N.Named.named c.args.self.now.names.now) r (is_in r (those n (has c.args.barred))))
    (λ r before after low byte told. let e = is_in_those n (has c.args.barred) r low in search rules)
