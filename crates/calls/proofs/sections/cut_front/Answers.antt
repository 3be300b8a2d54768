use Rattle.std.proofs.Common.{◌≡◌, ◌*◌, drop, ap, ◌∙◌, one-mul, arith, length-drop}
use Rattle.std.specs.Simd.{first_chunks}
use Rattle.std.proofs.lemmas.List.{take_rest}
use Rattle.std.proofs.lemmas.Bool.Decides.{nat_tests}
use Rattle.calls.specs.Begin.{region_count, march_count, sail_count, unit_count, march_words, sail_words, unit_words, owner_words}
use Rattle.calls.proofs.sections.cut_front.Goals as goal

pub returns : goal.returns
returns c =
    let ws = c.args.words.now in
    let body = take_rest ws 4 in
    let long = length-drop 4 ws in
    let march : c.part.result.1.now ≡ march_words ws = c.part.ensures.rest ∙ ap (drop (3 * region_count ws)) body in
    let sail : c.part-2.result.1.now ≡ sail_words ws = c.part-2.ensures.rest ∙ ap (drop (2 * march_count ws)) march in
    let units : c.part-3.result.1.now ≡ unit_words ws = c.part-3.ensures.rest ∙ ap (drop (2 * sail_count ws)) sail in
    let owners : c.part-4.result.1.now ≡ owner_words ws = c.part-4.ensures.rest ∙ ap (drop (3 * unit_count ws)) units in
    record {
      fit = grind (arith, nat_tests);
      regions = c.part.ensures.entries ∙ ap (first_chunks 3 (region_count ws)) body;
      march = c.part-2.ensures.entries ∙ ap (first_chunks 2 (march_count ws)) march;
      sail = c.part-3.ensures.entries ∙ ap (first_chunks 2 (sail_count ws)) sail;
      units = c.part-4.ensures.entries ∙ ap (first_chunks 3 (unit_count ws)) units;
      owners = c.part-5.ensures.entries ∙ ap (first_chunks 1 (region_count ws)) owners;
      rest = c.part-5.ensures.rest ∙ ap (drop (1 * region_count ws)) owners ∙ ap (λ k. drop k (owner_words ws)) (one-mul (region_count ws));
    }
