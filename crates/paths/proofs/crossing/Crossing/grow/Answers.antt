use Rattle.std.proofs.Common.{◌≡◌, ◌+◌, true, false, ◌||◌, [], drop, get_or, sym, ap, ◌∙◌, rules}
use Rattle.std.proofs.lemmas.Bool.{or_right}
use Rattle.std.proofs.lemmas.List.{drop_all}
use Rattle.values.specs.Fold.{is_in}
use Rattle.geography.specs.RegionSet.{has}
use Rattle.board.specs.Atlas.{board_of}
use Rattle.assignment.specs.Assignment.{nobody}
use Rattle.assignment.proofs.Steps.{resolution_more}
use Rattle.assignment.proofs.Tabled.{inside_at}
use Rattle.paths.specs.Paths.{carrier, reached}
use Rattle.paths.specs.Flood.{counts}
use Rattle.paths.proofs.Flooding.{grown_start, grown, passed, grown-end}
use Rattle.paths.proofs.crossing.Crossing.grow.Goals as goal
use Rattle.paths.proofs.crossing.Crossing.grow.Goals.{then-reaches, else-reaches}

pub loop-i-init : goal.loop-i-init
loop-i-init g c = (
  λ q h. h,
  λ rs same q.
      let s = c.args.self.now in
      let p = counts (g.S.Staying.stays s.fleets) s.water.xs.now in
      ap (λ b. b || is_in q (reached (board_of s.water.atlas.now) p s.from s.to rs s.water.xs.now)) (same q) ∙ grown_start (board_of s.water.atlas.now) p s.from s.to rs s.water.xs.now q,
)

pub insert-requires : goal.insert-requires
insert-requires g c = search (rules, inside_at)

pub loop-i-preserved : goal.loop-i-preserved
loop-i-preserved g c =
    let s = c.args.self.now in
    let xs = s.water.xs.now in
    let m = board_of s.water.atlas.now in
    let p = counts (g.S.Staying.stays s.fleets) xs in
    let x = get_or xs c.loop-i.i nobody in
    let others = drop (c.loop-i.i + 1) xs in
    let more = resolution_more xs c.loop-i.i c.loop-i-test.true in
    elim c.if-reaches.branch [
      | then-reaches w ↦ (
        λ q h. ap (λ t. has t q) w.next-is ∙ w.insert.ensures q ∙ or_right _ _ (c.loop-i.invariant.0 q h),
        λ rs same q.
            let here : carrier m p s.from s.to rs x ≡ true = let e = c.reaches.ensures rs same in let b = w.if-reaches in search rules in
            ap (λ t. has t q || is_in q (reached m p s.from s.to rs others)) w.next-is ∙
            grown m p s.from s.to (has c.loop-i.next) (has w.insert.new.self) rs x others w.insert.ensures here q ∙
            ap (λ l. has c.loop-i.next q || is_in q (reached m p s.from s.to rs l)) (sym more) ∙
            c.loop-i.invariant.1 rs same q,
      )
      | else-reaches w ↦ (
        λ q h. ap (λ t. has t q) w.next-is ∙ c.loop-i.invariant.0 q h,
        λ rs same q.
            let here : carrier m p s.from s.to rs x ≡ false = let e = c.reaches.ensures rs same in let b = w.if-reaches in search rules in
            ap (λ t. has t q || is_in q (reached m p s.from s.to rs others)) w.next-is ∙
            ap (λ l. has c.loop-i.next q || is_in q l) (passed m p s.from s.to rs x others here) ∙
            ap (λ l. has c.loop-i.next q || is_in q (reached m p s.from s.to rs l)) (sym more) ∙
            c.loop-i.invariant.1 rs same q,
      )
    ]

pub returns : goal.returns
returns g c = λ rs same q.
    let s = c.args.self.now in
    let xs = s.water.xs.now in
    let m = board_of s.water.atlas.now in
    let p = counts (g.S.Staying.stays s.fleets) xs in
    let done : drop c.loop-i.i xs ≡ [] = search (rules, drop_all) in
    sym (grown-end m p s.from s.to (has c.loop-i.next q) rs q (λ h. c.loop-i.invariant.0 q (same q ∙ h))) ∙
    ap (λ l. has c.loop-i.next q || is_in q (reached m p s.from s.to rs l)) (sym done) ∙
    c.loop-i.invariant.1 rs same q
