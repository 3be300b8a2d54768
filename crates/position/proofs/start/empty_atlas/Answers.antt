use Rattle.std.proofs.Common.{◌∙◌}
use Rattle.position.proofs.Empty.{no_ends, empty_good}
use Rattle.position.proofs.start.empty_atlas.Goals as goal

pub new-requires-2 : goal.new-requires-2
new-requires-2 c = no_ends _ c.new.ensures.items

pub new-requires-4 : goal.new-requires-4
new-requires-4 c = no_ends _ c.new-3.ensures.items

pub invariant_of-result : goal.invariant_of-result
invariant_of-result c =
    let regions = c.new-5.ensures.items in
    let march = c.in_ok-march.ensures ∙ c.new.ensures.items in
    let sail = c.in_ok-sail.ensures ∙ c.new-3.ensures.items in
    record { good = rw (regions, march, sail) empty_good }
