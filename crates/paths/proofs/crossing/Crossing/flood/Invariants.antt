use Rattle.std.proofs.Common.{◌≡◌, ℕ, ◌-◌, List, [], ◌∷◌, length}
use Rattle.geography.specs.RegionSet.{Holds}
use Rattle.board.specs.Atlas.{board_of}
use Rattle.paths.specs.Paths.{flood}
use Rattle.paths.specs.Flood.{counts}
use Rattle.paths.proofs.crossing.Crossing.flood.Given as goal

abbrev pub invariant-loop : goal.invariant-loop
invariant-loop g l =
    (rs : List ℕ) × Holds l.seen rs ×
    (flood (length l.self.water.xs.now - l.counter) (board_of l.self.water.atlas.now) (counts (g.S.Staying.stays l.self.fleets) l.self.water.xs.now) l.self.from l.self.to l.self.water.xs.now rs ≡
    flood (length l.self.water.xs.now) (board_of l.self.water.atlas.now) (counts (g.S.Staying.stays l.self.fleets) l.self.water.xs.now) l.self.from l.self.to l.self.water.xs.now (l.self.from ∷ []))
