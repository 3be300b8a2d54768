use Rattle.std.proofs.Common.{◌||◌, eqb, vec_items, ap, ◌∙◌, arith}
use Rattle.std.proofs.lemmas.List.{get_or_default}
use Rattle.geography.specs.RegionSet.{has, empty}
use Rattle.geography.proofs.Edges.{join_has}
use Rattle.geography.proofs.links.join.Goals as goal

pub returns : goal.returns
returns c =
    let rs = vec_items c.args.neighbours.now in
    record {
      long = c.requires.long;
      beside = join_has rs c.args.a c.args.b c.insert.new.self (omega (arith, c.args.neighbours.now.ok.0))
          (λ q. c.insert.ensures q ∙ ap (λ s. eqb q c.args.b || has s q) (c.index_mut.ensures.value ∙ get_or_default rs c.args.a _ empty (omega (arith, c.args.neighbours.now.ok.0))));
    }
