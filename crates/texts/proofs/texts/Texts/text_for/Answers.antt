use Rattle.std.proofs.Common.{vec_items, ap, ◌∙◌, arith}
use Rattle.std.proofs.lemmas.List.{get_or_default}
use Rattle.texts.specs.declared.texts.Slot.TheVariants.{Nothing}
use Rattle.texts.specs.Slots.{text_in, slot_of}
use Rattle.texts.proofs.Noting.{kept_text}
use Rattle.texts.proofs.texts.Texts.text_for.Goals as goal

pub returns : goal.returns
returns c =
    let self = c.args.self.now in
    let k = slot_of c.args.power c.args.region in
    c.text.ensures ∙
    ap text_in (c.index.ensures ∙ get_or_default (vec_items self.slots) k _ Nothing (omega (arith, self.slots.ok.0, self.long))) ∙
    kept_text (vec_items self.list) (vec_items self.slots) c.args.power c.args.region self.kept c.requires (omega arith)
