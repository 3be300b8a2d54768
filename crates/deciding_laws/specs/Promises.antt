-- All that is promised of deciding, in one record. Assumes nothing.
use Rattle.std.specs.Prelude.{◌≡◌, true, false, List, map}
use mathlib.Core.List.{Memᴰ}
use Rattle.board.specs.Board.{Board}
use Rattle.board.specs.Order.{is_move}
use Rattle.deciding.specs.declared.report.Report.{Report}
use Rattle.deciding.specs.Rounds.{decided}
use Rattle.deciding.specs.Outcome.{Ordered, fresh, strand, paradox, settled, outcome, reports}
use Rattle.deciding_laws.specs.Assignments.{Apart, played}
use Rattle.deciding_laws.specs.Plain.{Answer, Ruled, dislodged}
use Rattle.deciding_laws.specs.Answers.{answers, blank, commanded, start, Ashore, Necessary, BeatenByOne, Unique}
use Rattle.deciding_laws.specs.Rounds.{Ends, OnlyRings}
use Rattle.deciding_laws.specs.UnitsApart.{OneToARegion}

-- what is told of a unit, as an answer
abbrev pub told : Report → Answer
told r = record { unit = r.unit; order = r.order; success = r.success; stranded = r.stranded }

pub record DecidingPromises (m : Board) (os : List Ordered) : Type 0 where
  -- the answers are to just the given units, with their orders as played
  pub units : map commanded (answers m os) ≡ map (played m) os
  -- each move and each support succeeds just if the rules, applied to all the answers, say so
  pub ruled : Ruled m (answers m os)
  -- whoever is stranded was ordered over water, came to nothing and has no path
  pub ashore : (x : Answer) → Memᴰ x (answers m os) → x.stranded ≡ true → Ashore m (answers m os) x
  -- nobody is stranded but by a paradox, and then just those whose path it left open
  pub marks : map blank (answers m os) ≡ start m os
  -- what rounds decide is so in every assignment that keeps the rules
  pub necessary : Necessary m os
  -- where nothing is left open, no other assignment keeps the rules
  pub unique : Unique m os
  -- whoever is dislodged is so by one move, of a foreign power
  pub by_one : (x : Answer) → Memᴰ x (answers m os) → dislodged (answers m os) x ≡ true → BeatenByOne (answers m os) x
  -- after the moves no two units stand in one region
  pub apart : OneToARegion (outcome m os)
  -- rounds only decide more, and end after as many as there are units; so they do after a paradox, and then there is no other
  pub ends : Ends m (fresh m os)
  pub ends_again : Ends m (strand m (decided m (fresh m os)))
  pub once : paradox m (decided m (strand m (decided m (fresh m os)))) ≡ false
  -- what is open when all is settled goes round in rings
  pub rings : OnlyRings m (settled m os)
  -- the reports tell the answers, and who is dislodged by the rules
  pub reported : map told (reports m os) ≡ answers m os
  pub reported_out : (r : Report) → Memᴰ r (reports m os) → r.dislodged ≡ dislodged (answers m os) (told r)
  -- a ring is told only of moves that succeed
  pub reported_ring : (r : Report) → Memᴰ r (reports m os) → r.ring ≡ true → (is_move r.order ≡ true) × (r.success ≡ true)

abbrev pub DecidingIsRight : Type 0
DecidingIsRight = (m : Board) (os : List Ordered) → Apart os → DecidingPromises m os
