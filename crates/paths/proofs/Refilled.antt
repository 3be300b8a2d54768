-- What `refill` leaves in a vector, by the list that its iterator gives. Assumes nothing.
use Rattle.std.proofs.Common.{◌≡◌, List, map-id, Option, subst, sym, ◌∙◌}
use Rattle.std.specs.Iterator.{DrainsIf, Yields}
use Rattle.std.specs.Iterator.Runs.{WholeRun}
use Rattle.std.proofs.iter.runs.Made.{took}
use Rattle.std.proofs.lemmas.Iterator.{YieldsList, items_from_drains}

pub refilled : {S A : Type 0} {steps : S → Option A → S → Type 0} {s : S} {all out : List A} → WholeRun steps s (λ p. out ≡ p.items) → YieldsList steps (λ x. x) s all → out ≡ all
refilled {steps = steps} {s} w road =
    let ran = took w.0 in
    let drains : DrainsIf steps (Unit {0}) s w.0.items = (ran.0, subst (λ k. Yields steps k w.0.items ran.0) w.1 ran.1, λ _. ran.2 w.2) in
    w.3 ∙ sym (map-id w.0.items) ∙ items_from_drains w.0.items drains road
