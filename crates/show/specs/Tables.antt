-- What the code's tables by region say. Assumes nothing.
use Rattle.std.specs.Prelude.{ℕ, Bool, false, cond, ◌||◌, List, [], Some, None, Option, slice_index_or}
use Rattle.values.specs.Fold.{any}
use Rattle.deciding.specs.declared.report.Report.{Report}
use Rattle.game.specs.declared.phase.Dislodged.{Dislodged}
use Rattle.game.specs.declared.text.Written.{Written}
use Rattle.game.specs.Texts.{addressed}
use Rattle.tables.specs.ByRegion.{ByRegion}
use Rattle.show.specs.Words.{Names}
use Rattle.show.specs.declared.leaving.Leaving.{Leaving}
use Rattle.show.specs.Reports.{report_line, alone, goal_line}

-- written for region r by the power of the unit there
abbrev pub written_by : ℕ → Option Report → Written → Bool
written_by r None w = false
written_by r (Some x) w = addressed x.unit.power r w

-- whether the power of the unit in r wrote for it
abbrev pub wrote_at : List (Option Report) → ℕ → List Written → Bool
wrote_at table r ws = any (written_by r (slice_index_or table r None)) ws

abbrev pub Marked : List Bool → List (Option Report) → List Written → Type 0
Marked marked table ws = ByRegion false (wrote_at table) marked ws

abbrev pub marked_line : Names → Bool → Option Report → List ℕ
marked_line names marked None = []
marked_line names marked (Some x) = cond (marked || x.dislodged) (report_line names x) []

-- one who was dislodged, and where it goes
abbrev pub leaving : Dislodged × Option ℕ → Leaving
leaving (d, goal) = record { unit = d.unit; goal = goal }

abbrev pub leaving_line : Names → (ℕ → ℕ) → Option Leaving → List ℕ
leaving_line names count None = []
leaving_line names count (Some x) = goal_line names (alone count x.goal) x.unit x.goal
