use Rattle.std.proofs.Common.{◌≡◌, ℕ, List, drop}
use Rattle.geography.specs.RegionSet.{Holds}
use Rattle.board.specs.Atlas.{board_of}
use Rattle.paths.specs.Paths.{lands}
use Rattle.paths.specs.Flood.{counts}
use Rattle.paths.proofs.crossing.Crossing.lands.Given as goal

abbrev pub invariant-loop-i : goal.invariant-loop-i
invariant-loop-i g l =
    (rs : List ℕ) → Holds l.seen rs →
    lands (board_of l.self.water.atlas.now) (counts (g.S.Staying.stays l.self.fleets) l.self.water.xs.now) l.self.from l.self.to rs (drop l.i l.self.water.xs.now) ≡
    lands (board_of l.self.water.atlas.now) (counts (g.S.Staying.stays l.self.fleets) l.self.water.xs.now) l.self.from l.self.to rs l.self.water.xs.now
