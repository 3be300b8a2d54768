-- A position after a phase: the next phase, and after retreats or a winter nobody waits. Assumes nothing.
use Rattle.std.specs.Prelude.{ℕ, List, [], Some, None, vec_items, Option, Vec}
use Rattle.std.specs.declared.alloc.Global.{Global}
use Rattle.board.specs.declared.unit.Unit.{Unit}
use Rattle.game.specs.declared.phase.Dislodged.{Dislodged}
use Rattle.game.specs.Game.{Game, next}
use Rattle.geography.specs.declared.region_set.RegionSet.{RegionSet}
use Rattle.geography.specs.RegionSet.{empty}
use Rattle.position.specs.declared.position.Position.{Position}
use Rattle.position.specs.Tables.{game_on}

-- new owners, or else those that were
abbrev pub owned : Option (Vec (Option ℕ) Global) → List (Option ℕ) → List (Option ℕ)
owned None old = old
owned (Some v) old = vec_items v

abbrev pub settled : Position → List Unit → List (Option ℕ) → Game
settled p us os = game_on p.atlas (next p.phase) us [] empty os

-- after moves, who was dislodged waits, and owners stay
abbrev pub left : Position → List Unit → List Dislodged → RegionSet → Game
left p us ds s = game_on p.atlas (next p.phase) us ds s (vec_items p.owners)
