-- What the tests of an order and of what is decided of it say.
use Rattle.std.proofs.Common.{◌≡◌, ℕ, Bool, true, refl, ap, ◌∙◌, arith}
use Rattle.std.proofs.lemmas.Bool.{false≢true, eqb-true, eq-eqb}
use Rattle.values.specs.declared.tri.Tri.{Tri}
use Rattle.values.specs.declared.tri.Tri.TheVariants.{No, Yes}
use Rattle.values.specs.Tri.{is_yes, is_no}
use Rattle.board.specs.declared.order.Order.{Order}
use Rattle.board.specs.declared.order.Order.TheVariants.{Hold, Move, SupportHold, SupportMove, Convoy}
use Rattle.board.specs.Order.{goes_to, is_move, aim}

pub goes_move : (r : ℕ) (o : Order) → goes_to r o ≡ true → (c : Bool) × (o ≡ Move r c)
goes_move r Hold e = absurd (false≢true e)
goes_move r (Move t c) e = (c, ap (λ s. Move s c) (eqb-true _ _ e))
goes_move r (SupportHold s) e = absurd (false≢true e)
goes_move r (SupportMove f t) e = absurd (false≢true e)
goes_move r (Convoy f t) e = absurd (false≢true e)

pub move_goes : (r : ℕ) (o : Order) (c : Bool) → o ≡ Move r c → goes_to r o ≡ true
move_goes r o c e = ap (goes_to r) e ∙ eq-eqb r r refl

pub yes_is : (t : Tri) → is_yes t ≡ true → t ≡ Yes
yes_is t e = grind arith

pub no_is : (t : Tri) → is_no t ≡ true → t ≡ No
no_is t e = grind arith

pub move_aim : (o : Order) → is_move o ≡ true → (c : Bool) × (o ≡ Move (aim o) c)
move_aim Hold e = absurd (false≢true e)
move_aim (Move t c) e = (c, refl)
move_aim (SupportHold s) e = absurd (false≢true e)
move_aim (SupportMove f t) e = absurd (false≢true e)
move_aim (Convoy f t) e = absurd (false≢true e)
