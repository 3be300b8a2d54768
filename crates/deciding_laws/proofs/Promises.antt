-- All that is promised of deciding, put together from its parts.
use Rattle.std.proofs.Common.{◌≡◌, Bool, true, cond, ◌&&◌, sym, ap, ◌∙◌, subst, arith}
use mathlib.Core.List.{Memᴰ}
use Rattle.values.specs.Fold.{distinct}
use Rattle.values.specs.declared.tri.Tri.{Tri}
use Rattle.values.specs.declared.tri.Tri.TheVariants.{Yes}
use Rattle.values.specs.Tri.{is_yes, is_open}
use Rattle.board.specs.Order.{is_move}
use Rattle.assignment.specs.declared.resolution.Resolution.{Resolution}
use Rattle.assignment.specs.Assignment.{dislodged}
use Rattle.deciding.specs.Rounds.{decided}
use Rattle.deciding.specs.Outcome.{strand, close_one, fresh, settled, outcome, report_one}
use Rattle.deciding_laws.specs.Plain as plain
use Rattle.deciding_laws.specs.Answers.{answer, answers, NothingOpen, AnswersRuled}
use Rattle.deciding_laws.specs.Promises.{told, DecidingIsRight}
use Rattle.deciding_laws.proofs.Members.{mem_map, mem_of}
use Rattle.deciding_laws.proofs.RoundsEnd.{fresh_open, strand_open, rounds-end}
use Rattle.deciding_laws.proofs.Consistent.{outcome-apart, outcome_consistent}
use Rattle.deciding_laws.proofs.RingsOnly.{paradox_once, rings_only}
use Rattle.deciding_laws.proofs.UnitsApart.{units_apart}
use Rattle.deciding_laws.proofs.Tells.{yes_sure}
use Rattle.deciding_laws.proofs.Answers.{dislodged-told, map_twice, answers_keep_rules, decided_is_necessary, ruled_dislodges_by_one, answers_begin, one_answer}

ring_parts : (b : Bool) (v : Tri) → (b && is_open v) ≡ true → (b ≡ true) × (is_yes (cond (b && is_open v) Yes v) ≡ true)
ring_parts b v e = grind arith

pub deciding_is_right : DecidingIsRight
deciding_is_right m os a =
    record {
      units = c.units;
      ruled = c.ruled;
      ashore = c.ashore;
      marks = answers_begin m os;
      necessary = decided_is_necessary m os;
      unique = one_answer m os;
      by_one = ruled_dislodges_by_one m (answers m os) (ap distinct (map_twice answer (λ x. x.unit.region) (outcome m os)) ∙ outcome-apart m os a) c.ruled;
      apart = units_apart m os a;
      ends = rounds-end m (fresh m os) (fresh_open m os);
      ends_again = rounds-end m (strand m (decided m (fresh m os))) (strand_open m (decided m (fresh m os)));
      once = paradox_once m os a;
      rings = rings_only m os a;
      reported = map_twice (report_one (outcome m os)) told (settled m os) ∙ sym (map_twice close_one answer (settled m os));
      reported_out = λ r i. let q = mem_map (report_one (outcome m os)) r (settled m os) i in subst (λ s. s.dislodged ≡ plain.dislodged (answers m os) (told s)) (sym q.2) (out q.0 q.1);
      reported_ring = λ r i. let q = mem_map (report_one (outcome m os)) r (settled m os) i in subst (λ s. s.ring ≡ true → (is_move s.order ≡ true) × (s.success ≡ true)) (sym q.2) (ring_parts (is_move q.0.order) q.0.value);
    }
  where
    c : AnswersRuled m os
    c = answers_keep_rules m os a

    known : NothingOpen (outcome m os)
    known = (outcome_consistent m os a).known

    out : (x : Resolution) → Memᴰ x (settled m os) → is_yes (dislodged (close_one x) (outcome m os)) ≡ plain.dislodged (answers m os) (answer (close_one x))
    out x i = ap is_yes (dislodged-told m (outcome m os) known (close_one x) (known (close_one x) (mem_of close_one x (settled m os) i))) ∙ yes_sure (plain.dislodged (answers m os) (answer (close_one x)))
