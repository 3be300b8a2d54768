use Rattle.std.proofs.Common.{◌≡◌, ◌++◌, length, drop, vec_items}
use Rattle.game.specs.Owners.{owners_from}
use Rattle.aftermath.proofs.owners.new_owners.Given as goal

abbrev pub invariant-loop-region : goal.invariant-loop-region
invariant-loop-region l = vec_items l.out ++ owners_from (length l.yielded) (drop (length l.yielded) (vec_items l.atlas.regions)) l.units (drop (length l.yielded) l.owners) ≡ owners_from 0 (vec_items l.atlas.regions) l.units l.owners
