use Rattle.std.proofs.Common.{◌++◌, None, vec_items, map, ap, ◌∙◌, subst, rules}
use Rattle.std.specs.List.{zip}
use Rattle.std.proofs.lemmas.Result.{IfOk-weaker}
use Rattle.retreats.specs.Retreating.{goals_in}
use Rattle.tables.specs.Stands.{first_at, Tabled}
use Rattle.tables.proofs.Regions.{region_at}
use Rattle.show.specs.Tables.{leaving, leaving_line}
use Rattle.show.proofs.Going.{leaving_lines}
use Rattle.show.proofs.printer.Printer.push_retreats.Goals as goal

pub returns : goal.returns
returns g c =
    let names = g.N.Named.named c.args.self.now.names.now in
    let ds = c.args.dislodged.now in
    let goals = c.args.goals.now in
    let all = map leaving (zip ds goals) in
    let tabled = subst (λ xs. Tabled (λ x. x.unit) (vec_items c.in_ok-table.table) xs) (c.as_slice.ensures.value ∙ c.in_ok-all.ensures) c.in_ok-table.ensures.1 in
    IfOk-weaker c.push_each.result _ _
    (λ x done m game ws wide same each. done ∙ ap (λ l. vec_items c.args.out.now ++ l) (leaving_lines names m game ws goals ds c.args.self.now.regions wide same each))
    (c.push_each.ensures (λ r. leaving_line names (λ t. goals_in t goals) (first_at (λ x. x.unit) r all))
    (λ r before after low byte told. let e = region_at None (first_at (λ x. x.unit)) (vec_items c.in_ok-table.table) all r tabled byte in let counted = c.goal_counts-counts.ensures in search rules))
