use Rattle.std.proofs.Common.{rules}
use Rattle.std.proofs.lemmas.List.{map-id}
use Rattle.position.proofs.start.peopled.Goals as goal

pub returns-then-well_placed-2 : goal.returns-then-well_placed-2
returns-then-well_placed-2 c = let same = map-id c.args.units.now in search rules

pub returns-else-well_placed-2 : goal.returns-else-well_placed-2
returns-else-well_placed-2 c = let same = map-id c.args.units.now in search rules
