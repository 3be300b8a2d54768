use Rattle.std.proofs.Common.{◌≡◌, ℕ, ◌+◌, ◌-◌, not, ◌&&◌, ◌||◌, eqb, ◌∷◌, map, length, drop, sym, ap, ◌∙◌}
use Rattle.std.proofs.lemmas.List.{drop-map}
use Rattle.std.proofs.lemmas.Bool.{and_from}
use Rattle.std.proofs.lemmas.Iterator.Adapters.{YieldsList-from_rev_slice}
use Rattle.values.proofs.Backwards.{back_turn, back_end, back_none, back_more, back_all}
use Rattle.geography.specs.RegionSet.{has, empty}
use Rattle.board.specs.Board.{stands}
use Rattle.board.specs.Atlas.{board_of}
use Rattle.position.proofs.Placed.{Placed, whole, placed_none, placed_fits, ill_fits, rest_ill}
use Rattle.position.proofs.lawful.well_placed.Goals as goal

pub loop-piece-init : goal.loop-piece-init
loop-piece-init g c = (tt, tt, back_none (λ ps. Placed (board_of c.args.atlas.now) (map g.P.Standing.piece ps) empty) c.args.pieces.now (placed_none (board_of c.args.atlas.now)))

pub returns-then-not-fits : goal.returns-then-not-fits
returns-then-not-fits g c =
    let m = board_of c.args.atlas.now in
    let f = g.P.Standing.piece in
    let ps = c.args.pieces.now in
    let n = length c.loop-piece.yielded in
    let t = back_turn ps (YieldsList-from_rev_slice ps (cc)) c.loop-piece.yielded _ c.loop-piece.yielded_by _ _ c.in-Some.piece c.in-Some.is c.next.ensures.steps in
    let here = drop-map f (length ps - (n + 1)) ps ∙ ap (map f) t.rest ∙ ap (λ u. u ∷ map f (drop (length ps - n) ps)) (sym c.unit-u.ensures) in
    let ill = ill_fits m (map f (drop (length ps - n) ps)) c.loop-piece.taken c.unit-u.result c.loop-piece.invariant.2 (sym c.fits.ensures ∙ c.if-not-fits.true) in
    sym (rest_ill m (map f ps) (length ps - (n + 1)) (ap (whole m) here ∙ ill))

pub loop-piece-preserved : goal.loop-piece-preserved
loop-piece-preserved g c =
    let m = board_of c.args.atlas.now in
    let f = g.P.Standing.piece in
    let ps = c.args.pieces.now in
    let rest = map f (drop (length ps - length c.loop-piece.yielded) ps) in
    let t = back_turn ps (YieldsList-from_rev_slice ps (cc)) c.loop-piece.yielded _ c.loop-piece.yielded_by _ _ c.in-Some.piece c.in-Some.is c.next.ensures.steps in
    let fits = ap (λ u. stands m u && not (has c.loop-piece.taken u.region)) (sym c.unit-u.ensures) ∙ sym c.fits.ensures ∙ c.if-not-fits.false in
    let more : (q : ℕ) → has c.insert.new.self q ≡ (eqb q (f c.in-Some.piece.now).region || has c.loop-piece.taken q) = λ q. c.insert.ensures q ∙ ap (λ u. eqb q u.region || has c.loop-piece.taken q) c.unit-u.ensures in
    let placed = placed_fits m rest c.loop-piece.taken (f c.in-Some.piece.now) c.loop-piece.invariant.2 c.insert.new.self fits more in
    (tt, tt, back_more (λ ps. Placed m (map f ps) c.insert.new.self) ps c.loop-piece.yielded c.in-Some.piece c.in-Some.piece.now t placed)

pub returns : goal.returns
returns g c =
    let m = board_of c.args.atlas.now in
    let f = g.P.Standing.piece in
    let ps = c.args.pieces.now in
    let end = back_end ps (YieldsList-from_rev_slice ps (cc)) c.loop-piece.yielded _ c.loop-piece.yielded_by _ _ c.in-None.is c.next.ensures.steps in
    let all = back_all (λ ps. Placed m (map f ps) c.loop-piece.taken) ps c.loop-piece.yielded end c.loop-piece.invariant.2 in
    sym (and_from _ _ all.apart all.stand)
