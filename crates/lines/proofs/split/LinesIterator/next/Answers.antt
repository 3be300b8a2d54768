use Rattle.std.proofs.Common.{◌≡◌, ◌+◌, ◌<◌, [], ◌∷◌, length, eqb, take, sym, ◌∙◌, ap, rules, tests}
use Rattle.std.specs.List.{position}
use Rattle.std.proofs.lemmas.List.{take_rest}
use Rattle.std.proofs.lemmas.Iterator.{YieldsList-from_slice}
use Rattle.std.proofs.lemmas.Iterator.Search.{position_from_yields_List}
use Rattle.lines.specs.Split.{lines_of}
use Rattle.lines.proofs.FirstLine.{no_line, ended_line, last_line}
use Rattle.lines.proofs.split.LinesIterator.next.Goals as goal

pub returns-then-is_empty-clause-steps : goal.returns-then-is_empty-clause-steps
returns-then-is_empty-clause-steps c = let none : lines_of c.args.self.now.rest.now ≡ [] = no_line _ (search rules) in (none, none)

pub returns-in-None-clause-steps : goal.returns-in-None-clause-steps
returns-in-None-clause-steps c =
    let bs = c.args.self.now.rest.now in
    let found : c.position.result ≡ position (λ b. eqb b 10) bs = position_from_yields_List (λ b. eqb b 10) _ _ c.position.result c.position.ensures.ran (YieldsList-from_slice bs cc) (λ x b q k. search (rules, tests)) in
    let some : 0 < length bs = search rules in
    last_line bs some (sym found ∙ c.in-None.is)

pub returns-in-Some-clause-steps : goal.returns-in-Some-clause-steps
returns-in-Some-clause-steps c =
    let bs = c.args.self.now.rest.now in
    let found : c.position.result ≡ position (λ b. eqb b 10) bs = position_from_yields_List (λ b. eqb b 10) _ _ c.position.result c.position.ensures.ran (YieldsList-from_slice bs cc) (λ x b q k. search (rules, tests)) in
    ended_line bs c.in-Some.n (sym found ∙ c.in-Some.is) ∙ ap (λ l. take c.in-Some.n bs ∷ lines_of l) (sym (take_rest bs (c.in-Some.n + 1)))
