use Rattle.std.proofs.Common.{get_or, ap, sym, ◌∙◌, arith}
use Rattle.std.specs.Option.{option_map}
use Rattle.assignment.specs.Assignment.{nobody}
use Rattle.assignment.proofs.Tabled.{who_read, within_read}
use Rattle.assignment.proofs.orders.Orders.who.Goals as goal

pub returns-in_err-i : goal.returns-in_err-i
returns-in_err-i c =
    c.from_residual.ensures ∙ ap (option_map (λ k. get_or c.args.self.list.now k nobody)) (sym c.in_err-i.was) ∙
    who_read c.args.self.lookup.now c.args.self.list.now c.args.self.indexed c.args.r (omega arith) c.index.result.now c.index.ensures

pub bounds-self-i : goal.bounds-self-i
bounds-self-i c = within_read c.args.self.lookup.now c.args.self.list.now c.args.self.indexed c.args.r (omega arith) c.index.result.now c.index.ensures c.in_ok-i.i c.in_ok-i.was

pub returns : goal.returns
returns c =
    ap (option_map (λ k. get_or c.args.self.list.now k nobody)) (sym c.in_ok-i.was) ∙
    who_read c.args.self.lookup.now c.args.self.list.now c.args.self.indexed c.args.r (omega arith) c.index.result.now c.index.ensures
