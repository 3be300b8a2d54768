use Rattle.std.proofs.Common.{◌≡◌, ◌-◌, length, drop, map, vec_items, vec_len}
use Rattle.assignment.proofs.Tabled.{Filled}
use Rattle.assignment.proofs.lookup.Lookup.new.Given as goal

abbrev pub invariant-loop-i : goal.invariant-loop-i
invariant-loop-i l =
    record {
      able : (goal.iterator-loop-i).can_next l.i-iterator;
      finite : (goal.iterator-loop-i).is_finite l.i-iterator;
      places : vec_len l.place ≡ 256;
      targets : vec_len l.aimed ≡ 256;
      filled : Filled (length l.xs - length l.yielded) (vec_items l.place) (map vec_items (vec_items l.aimed)) (drop (length l.xs - length l.yielded) l.xs);
    }
