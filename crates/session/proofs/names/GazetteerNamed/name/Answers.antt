use Rattle.std.proofs.Common.{[], sym, arith}
use Rattle.std.proofs.lemmas.List.{get_or_past}
use Rattle.session.specs.Tables.{place_names}
use Rattle.session.proofs.names.GazetteerNamed.name.Goals as goal

pub returns-else-r-count : goal.returns-else-r-count
returns-else-r-count c = sym (get_or_past (place_names c.args.self.now) c.args.r [] (omega arith))
