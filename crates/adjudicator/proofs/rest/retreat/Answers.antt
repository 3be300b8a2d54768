use Rattle.std.proofs.Common.{Ok, Err, Result, sym}
use Rattle.std.specs.Result.{IfOk}
use Rattle.position.specs.Position.{game_of}
use Rattle.adjudicator.proofs.rest.retreat.Goals as goal

-- what follows from what is known of a value
if_ok : {A E : Type 0} {P Q : A → Type 0} (r : Result A E) → ((v : A) → P v → Q v) → IfOk r P → IfOk r Q
if_ok (Ok v) f h = f v h
if_ok (Err e) f h = tt

pub returns : goal.returns
returns c =
    if_ok c.units_after_retreats.result
    (λ v h. h (game_of c.args.p.now) (record { units = sym c.as_slice.ensures.value; dislodged = sym c.as_slice-2.ensures.value; barred = c.barred_regions.ensures })) c.units_after_retreats.ensures
