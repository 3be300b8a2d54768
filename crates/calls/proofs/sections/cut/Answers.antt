use Rattle.std.proofs.Common.{◌<◌, length, get_or, ap, ◌∙◌, arith, rules}
use Rattle.std.specs.Simd.{first_chunks}
use Rattle.calls.proofs.Fits.{back_misfit, both_fit, rooms, out_is, out_many, out_short, barred_is, barred_many, barred_unlike, back_fit}
use Rattle.calls.proofs.sections.cut.Goals as goal
use Rattle.calls.proofs.sections.cut.Goals.{then-dislodged-gt128-via-then-dislodged-gt128, then-dislodged-gt128-via-else-dislodged-gt128+then-body-dislodged, then-barred-gt128-via-then-barred-gt128, then-barred-gt128-via-else-barred-gt128+then-body-barred}

pub returns-in_default : goal.returns-in_default
returns-in_default c =
    let front = c.in_ok-front.ensures in
    let room = (rooms c.args.words.now front.fit).rest in
    let long = ap length front.rest in
    let short : length c.in_ok-front.front.rest.now < 2 = search rules in
    absurd (omega arith)

pub returns-then-dislodged-gt128 : goal.returns-then-dislodged-gt128
returns-then-dislodged-gt128 c =
    let ws = c.args.words.now in
    let rest = c.in_ok-front.front.rest.now in
    let is = c.in_ok-front.ensures.rest in
    back_misfit ws (elim c.then-dislodged-gt128.branch [
      | then-dislodged-gt128-via-then-dislodged-gt128 w ↦ out_many ws rest is w.if-dislodged-gt128.true
      | then-dislodged-gt128-via-else-dislodged-gt128+then-body-dislodged w ↦ out_short ws rest is w.if-body-dislodged.true
    ])

pub returns-then-barred-gt128 : goal.returns-then-barred-gt128
returns-then-barred-gt128 c =
    let ws = c.args.words.now in
    let rest = c.in_ok-front.front.rest.now in
    let is = c.in_ok-front.ensures.rest in
    let tail = c.part.result.1.now in
    back_misfit ws (elim c.then-barred-gt128.branch [
      | then-barred-gt128-via-then-barred-gt128 w ↦ barred_many ws rest is tail c.part.ensures.rest w.if-barred-gt128.true
      | then-barred-gt128-via-else-barred-gt128+then-body-barred w ↦ barred_unlike ws rest is tail c.part.ensures.rest (omega arith) (omega arith)
    ])

pub returns : goal.returns
returns c =
    let ws = c.args.words.now in
    let front = c.in_ok-front.ensures in
    let rest = c.in_ok-front.front.rest.now in
    let is = front.rest in
    let tail = c.part.result.1.now in
    record {
      fit = both_fit ws front.fit (back_fit ws rest is tail c.part.ensures.rest c.if-dislodged-gt128.false c.if-body-dislodged.false c.if-barred-gt128.false (omega arith) c.if-body-barred.false);
      front = front;
      phase = ap (λ l. get_or l 0 0) is;
      dislodged = c.part.ensures.entries ∙ (λ i. first_chunks 4 (get_or (is i) 1 0) (out_is ws rest is i));
      barred = barred_is ws rest is tail c.part.ensures.rest;
    }
