use Rattle.std.proofs.Common.{rules}
use Rattle.std.proofs.lemmas.List.{map-set, get_or-map}
use Rattle.assignment.proofs.lookup.file.Goals as goal

pub returns-clause-filed : goal.returns-clause-filed
returns-clause-filed c = search (rules, map-set, get_or-map)
