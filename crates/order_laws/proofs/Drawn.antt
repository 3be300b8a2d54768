-- However edges are drawn, they join the same regions.
use Rattle.std.proofs.Common.{◌≡◌, Bool, ◌&&◌, ◌||◌, eqb, sym, ◌∙◌, arith}
use Rattle.values.specs.Fold.{any}
use Rattle.values.proofs.Shuffled.{any_shuffle}
use Rattle.geography.specs.Links.{joins, linked}
use Rattle.order_laws.specs.Edges.{another_order, turned_round, doubled, back, further, AnyDrawing}

or_double : (p c : Bool) → (p || c) ≡ (p || (p || c))
or_double p c = grind arith

pub any_drawing_lem : AnyDrawing
unfolding any
any_drawing_lem es fs (another_order s) a b = any_shuffle (joins a b) s
any_drawing_lem _ _ (turned_round e es) a b = turn_both (eqb a e.one) (eqb b e.two) (eqb b e.one) (eqb a e.two) (linked a b es)
  where
    turn_both : (p q r s c : Bool) → (((p && q) || (r && s)) || c) ≡ (((s && r) || (q && p)) || c)
    turn_both p q r s c = grind arith
any_drawing_lem _ _ (doubled e es) a b = or_double (joins a b e) (linked a b es)
any_drawing_lem es fs (back d) a b = sym (any_drawing_lem fs es d a b)
any_drawing_lem es gs (further {fs = fs} d e) a b = any_drawing_lem es fs d a b ∙ any_drawing_lem fs gs e a b
