use Rattle.std.proofs.Common.{◌≡◌, vec_items, sym, ap, ◌∙◌, subst, rules}
use Rattle.board.specs.Atlas.{board_of}
use Rattle.assignment.specs.Places.{Inside}
use Rattle.assignment.specs.Lookup.{Indexed}
use Rattle.deciding.specs.Outcome.{strand}
use Rattle.deciding.proofs.Again.{indexed_strand, inside_strand}
use Rattle.deciding.proofs.settle.settle.Goals as goal

pub decide_all-requires-2 : goal.decide_all-requires-2
decide_all-requires-2 c =
    let m = board_of c.args.atlas.now in
    let ys = vec_items c.decide_all.new.xs in
    let here : vec_items c.swap.new.x ≡ strand m ys = ap vec_items c.swap.ensures.x_after ∙ c.strand_into.ensures.items ∙ ap (strand m) c.as_slice-5.ensures.value in
    record {
      indexed = subst (Indexed c.args.lookup.now) (sym here) (indexed_strand m c.args.lookup.now ys c.decide_all.ensures.indexed);
      inside = subst Inside (sym here) (inside_strand m ys c.decide_all.ensures.inside);
      room = search rules;
      spare = search rules;
      dislodged = search rules;
      paths = search rules;
    }
