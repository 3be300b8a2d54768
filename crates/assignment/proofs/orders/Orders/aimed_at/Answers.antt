use Rattle.std.proofs.Common.{◌≡◌, ◌<◌, length, map, vec_items, [], ap, sym, ◌∙◌, subst, arith}
use Rattle.std.specs.List.{All}
use Rattle.std.proofs.lemmas.List.{get_or-map}
use Rattle.assignment.specs.Places.{places_aimed}
use Rattle.assignment.proofs.Aimed.{aimed_within}
use Rattle.assignment.proofs.Tabled.{aimed_table}
use Rattle.assignment.proofs.orders.Orders.aimed_at.Goals as goal

read : (c : goal.After-deref) → c.deref.result.now ≡ places_aimed c.args.r c.args.self.list.now
read c =
    let table = c.args.self.lookup.now.aimed in
    let wide : c.args.r < length (vec_items table) = omega (arith, table.ok.0, c.args.self.lookup.now.targets) in
    c.deref.ensures.value ∙ ap vec_items c.index.ensures ∙ sym (get_or-map vec_items (vec_items table) c.args.r c.index.result.now [] wide) ∙
    aimed_table (map vec_items (vec_items table)) c.args.self.list.now c.args.r c.args.self.indexed.aimed (omega arith)

pub returns-clause-places : goal.returns-clause-places
returns-clause-places c = read c

pub returns-clause-within : goal.returns-clause-within
returns-clause-within c = subst (All (λ i. i < length c.args.self.list.now)) (sym (read c)) (aimed_within c.args.r c.args.self.list.now)
