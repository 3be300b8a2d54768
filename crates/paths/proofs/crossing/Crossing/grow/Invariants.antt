use Rattle.std.proofs.Common.{◌≡◌, ℕ, true, ◌||◌, List, drop}
use Rattle.values.specs.Fold.{is_in}
use Rattle.geography.specs.RegionSet.{has, Holds}
use Rattle.board.specs.Atlas.{board_of}
use Rattle.paths.specs.Paths.{reached}
use Rattle.paths.specs.Flood.{counts}
use Rattle.paths.proofs.crossing.Crossing.grow.Given as goal

abbrev pub invariant-loop-i : goal.invariant-loop-i
invariant-loop-i g l =
    ((q : ℕ) → has l.seen q ≡ true → has l.next q ≡ true) ×
    ((rs : List ℕ) → Holds l.seen rs → (q : ℕ) →
    (has l.next q || is_in q (reached (board_of l.self.water.atlas.now) (counts (g.S.Staying.stays l.self.fleets) l.self.water.xs.now) l.self.from l.self.to rs (drop l.i l.self.water.xs.now))) ≡
    is_in q (reached (board_of l.self.water.atlas.now) (counts (g.S.Staying.stays l.self.fleets) l.self.water.xs.now) l.self.from l.self.to rs l.self.water.xs.now))
