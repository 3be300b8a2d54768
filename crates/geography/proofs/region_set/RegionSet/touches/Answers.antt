use Rattle.std.proofs.Common.{◌≡◌, ℕ, arith}
use Rattle.geography.proofs.Bitwise.{same_test, touch_false, touch_low, touch_high}
use Rattle.geography.proofs.region_set.RegionSet.touches.Goals as goal

pub returns-then-share : goal.returns-then-share
returns-then-share c = λ rs same.
    same_test _ _
    (λ e. c.share.ensures.some (touch_low c.args.self c.args.other rs same e))
    (λ e. absurd (let z : ◌≡◌ {A = ℕ} 0 1 = cc in omega arith))

pub returns-else-share : goal.returns-else-share
returns-else-share c = λ rs same.
    same_test _ _
    (λ e. c.share-else-share.ensures.some (touch_high c.args.self c.args.other rs same e))
    (λ e. touch_false c.args.self c.args.other rs same (c.share.ensures.none c.if-share.false) (c.share-else-share.ensures.none e))
