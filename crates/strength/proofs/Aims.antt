-- Rivals go where the move goes, and who cuts a support goes to its region. Assumes nothing.
use Rattle.std.proofs.Common.{◌≡◌, ℕ, true, not, ◌&&◌, eqb, sym, subst}
use Rattle.std.proofs.lemmas.Bool.{and_parts}
use Rattle.board.specs.Order.{goes_to, aim}
use Rattle.assignment.specs.declared.resolution.Resolution.{Resolution}
use Rattle.assignment.specs.Places.{aimed_at}
use Rattle.assignment.proofs.Aimed.{goes_aimed}
use Rattle.strength.specs.Decide.{rival, cuts}

pub rival_aimed : (r : ℕ) (x : Resolution) → r ≡ aim x.order → (y : Resolution) → rival x y ≡ true → aimed_at r y ≡ true
rival_aimed r x e y h =
    subst (λ q. aimed_at q y ≡ true) (sym e) (goes_aimed (aim x.order) y (and_parts (goes_to (aim x.order) y.order) (not (eqb x.unit.region y.unit.region)) h).0)

pub cuts_aimed : (x y : Resolution) → cuts x y ≡ true → aimed_at x.unit.region y ≡ true
cuts_aimed x y h =
    let first = goes_to x.unit.region y.order && not (eqb x.unit.power y.unit.power) in
    goes_aimed x.unit.region y (and_parts (goes_to x.unit.region y.order) (not (eqb x.unit.power y.unit.power)) (and_parts first (not (eqb y.unit.region (aim x.order))) h).0).0
