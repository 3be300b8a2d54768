use Rattle.std.proofs.Common.{◌<◌, [], length, vec_items, sym, ap, ◌∙◌, rules}
use Rattle.std.proofs.lemmas.List.{length-map, get_or-map}
use Rattle.text.proofs.names.Names.get.Goals as goal

pub index-requires : goal.index-requires
index-requires c = search (rules, length-map)

pub returns : goal.returns
returns c =
    let parts = vec_items c.args.self.now.parts in
    let within : c.args.i < length parts = rw (length-map parts (λ part. part.now)) at c.requires in
    ap (λ part. part.now) c.index.ensures ∙ sym (get_or-map (λ part. part.now) parts c.args.i _ [] within)
