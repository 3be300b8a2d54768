use Rattle.std.proofs.Common.{◌≡◌, ◌+◌, ◌&&◌, ◌∷◌, ltb, length, drop, sym, ap, ◌∙◌, subst, arith}
use Rattle.std.proofs.lemmas.List.{length-map, length_push, drop_more, drop_all}
use Rattle.std.proofs.lemmas.Slice.Zip.{zip_turn, zip_end}
use Rattle.values.specs.declared.tri.Tri.TheVariants.{No}
use Rattle.geography.specs.RegionSet.{has}
use Rattle.geography.proofs.Bitwise.{has_none}
use Rattle.board.specs.Order.{aim}
use Rattle.board.specs.Atlas.{board_of}
use Rattle.assignment.specs.Assignment.{nobody}
use Rattle.paths.specs.Paths.{path}
use Rattle.aftermath.specs.Arrivals.{repelled}
use Rattle.aftermath.proofs.Arriving.{Struck, path-at, struck_miss, struck_hit, struck_none, struck-all}
use Rattle.aftermath.proofs.after_moves.contested.Goals as goal

pub loop-mover-init : goal.loop-mover-init
loop-mover-init c = struck_none (board_of c.args.atlas.now) c.args.xs.now _ has_none

pub loop-mover-preserved-then-is_repelled : goal.loop-mover-preserved-then-is_repelled
loop-mover-preserved-then-is_repelled c =
    let m = board_of c.args.atlas.now in
    let xs = c.args.xs.now in
    let n = length c.loop-mover.yielded in
    let x = c.in-Some.mover.now in
    let z = zip_turn xs c.args.paths.now c.loop-mover.yielded c.into_iter-mover-iterator.result c.loop-mover.mover-iterator c.next.new.self c.next.result (cc) (cc) c.loop-mover.yielded_by (c.in-Some.mover, c.in-Some.path) c.in-Some.is c.next.ensures.steps in
    let rest : drop n xs ≡ x ∷ drop (n + 1) xs = drop_more xs n nobody z.0 ∙ ap (λ y. y ∷ drop (n + 1) xs) (sym (z.2 nobody)) in
    let kept = subst (Struck m xs (has c.loop-mover.s)) rest c.loop-mover.invariant in
    let is = ap (λ t. repelled x t && ltb (aim x.order) (length m.regions)) (sym (path-at m xs c.args.paths.now n x c.in-Some.path.now c.requires z.0 (z.2 nobody) (z.3 No))) ∙ sym c.is_repelled.ensures ∙ c.if-is_repelled.true in
    subst (λ k. Struck m xs (has c.insert.new.self) (drop k xs)) (sym (length_push c.loop-mover.yielded (c.in-Some.mover, c.in-Some.path)))
    (struck_hit m xs x (drop (n + 1) xs) (has c.loop-mover.s) kept c.aim.result (has c.insert.new.self) c.aim.ensures is c.insert.ensures)

pub loop-mover-preserved : goal.loop-mover-preserved
loop-mover-preserved c =
    let m = board_of c.args.atlas.now in
    let xs = c.args.xs.now in
    let n = length c.loop-mover.yielded in
    let x = c.in-Some.mover.now in
    let z = zip_turn xs c.args.paths.now c.loop-mover.yielded c.into_iter-mover-iterator.result c.loop-mover.mover-iterator c.next.new.self c.next.result (cc) (cc) c.loop-mover.yielded_by (c.in-Some.mover, c.in-Some.path) c.in-Some.is c.next.ensures.steps in
    let rest : drop n xs ≡ x ∷ drop (n + 1) xs = drop_more xs n nobody z.0 ∙ ap (λ y. y ∷ drop (n + 1) xs) (sym (z.2 nobody)) in
    let kept = subst (Struck m xs (has c.loop-mover.s)) rest c.loop-mover.invariant in
    let is = ap (λ t. repelled x t && ltb (aim x.order) (length m.regions)) (sym (path-at m xs c.args.paths.now n x c.in-Some.path.now c.requires z.0 (z.2 nobody) (z.3 No))) ∙ sym c.is_repelled.ensures ∙ c.if-is_repelled.false in
    subst (λ k. Struck m xs (has c.loop-mover.s) (drop k xs)) (sym (length_push c.loop-mover.yielded (c.in-Some.mover, c.in-Some.path))) (struck_miss m xs x (drop (n + 1) xs) (has c.loop-mover.s) kept is)

pub returns : goal.returns
returns c =
    let m = board_of c.args.atlas.now in
    let xs = c.args.xs.now in
    let n = length c.loop-mover.yielded in
    let last = zip_end xs c.args.paths.now c.loop-mover.yielded c.into_iter-mover-iterator.result c.loop-mover.mover-iterator c.next.new.self c.next.result (cc) (cc) c.loop-mover.yielded_by c.in-None.is c.next.ensures.steps in
    let long = ap length c.requires ∙ length-map xs (λ x. path m x xs) in
    struck-all m xs (has c.loop-mover.s) (subst (Struck m xs (has c.loop-mover.s)) (drop_all n xs (omega (arith, last, long))) c.loop-mover.invariant)
