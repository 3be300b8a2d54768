use Rattle.std.proofs.Common.{rules}
use Rattle.text.proofs.Places.{place_none}
use Rattle.text.proofs.names.Names.new.Goals as goal

pub invariant_of-result : goal.invariant_of-result
invariant_of-result c = record { placed = λ word. search (rules, place_none) }
