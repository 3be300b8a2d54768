-- There is no second paradox, and what is open when all is settled goes round in rings.
use Rattle.std.proofs.Common.{◌≡◌, Bool, true, cond, ◌&&◌, List, sym, subst, arith}
use mathlib.Core.List.{Memᴰ}
use Rattle.values.specs.declared.tri.Tri.{Tri}
use Rattle.values.specs.declared.tri.Tri.TheVariants.{Open, Yes}
use Rattle.values.specs.Tri.{is_yes, is_open}
use Rattle.board.specs.declared.order.Order.{Order}
use Rattle.board.specs.Order.{goes_to, is_move, aim}
use Rattle.assignment.specs.declared.resolution.Resolution.{Resolution}
use Rattle.deciding.specs.Outcome.{in_ring, close_one, settled, outcome}
use Rattle.deciding_laws.specs.Dislodged.{came}
use Rattle.deciding_laws.specs.Rounds.{ParadoxOnce, WaitsForNext, RingsOnly}
use Rattle.deciding_laws.proofs.Members.{mem_of}
use Rattle.deciding_laws.proofs.SupportsDecided.{Rest, same_place, supports_known}
use Rattle.deciding_laws.proofs.RingsClosed.{open_waits}
use Rattle.deciding_laws.proofs.Consistent.{closed, first, second, second_clear, settled_rest, outcome-apart}
use Rattle.deciding_laws.proofs.OneEntersEach.{one_enters}
use Rattle.deciding_laws.proofs.DislodgedByOne.{outcome_is_consistent}

pub paradox_once : ParadoxOnce
unfolding first second
paradox_once m os a = second_clear m os a

ring_parts : (b : Bool) (v : Tri) → (b && is_open v) ≡ true → (b ≡ true) × (v ≡ Open)
ring_parts b v e = grind arith

ring_from : (b : Bool) (v : Tri) → b ≡ true → v ≡ Open → (b && is_open v) ≡ true
ring_from b v e f = grind arith

closed_came : (o : Order) (v : Tri) → (is_move o && is_open v) ≡ true → (goes_to (aim o) o && is_yes (cond (is_move o && is_open v) Yes v)) ≡ true
closed_came o v e = grind arith

pub rings_only : RingsOnly
rings_only m os a = record { supports = λ x i k. closed (supports_known m zs rest x i k); paths = λ x i k. closed (rest.paths x i k); waits = waits; alone = alone }
  where
    zs : List Resolution
    zs = settled m os

    rest : Rest m (settled m os)
    rest = settled_rest m os a

    waits : (x : Resolution) → Memᴰ x (settled m os) → in_ring x ≡ true → WaitsForNext (settled m os) x
    waits x i e =
        let h = ring_parts (is_move x.order) x.value e in
        let r = open_waits m (settled m os) rest x i h.0 h.1 in
        record { next = r.next; there = r.there; open_too = ring_from (is_move r.next.order) r.next.value r.waiting.goes r.waiting.opened; unmet = r.waiting.apart }

    -- closed, both would enter the region
    alone : (x y : Resolution) → Memᴰ x (settled m os) → Memᴰ y (settled m os) → in_ring x ≡ true → in_ring y ≡ true → aim x.order ≡ aim y.order → x ≡ y
    alone x y i j e f g =
        same_place m (settled m os) rest x y i j
        (one_enters m (outcome m os) (outcome_is_consistent m os a) (outcome-apart m os a) (aim x.order) (close_one x) (close_one y) (mem_of close_one x (settled m os) i) (closed_came x.order x.value e)
        (mem_of close_one y (settled m os) j) (subst (λ r. came r (close_one y) ≡ true) (sym g) (closed_came y.order y.value f)))
