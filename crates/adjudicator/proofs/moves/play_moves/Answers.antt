use Rattle.std.proofs.Common.{◌≡◌, map, length, vec_items, sym, ap, ◌∙◌, subst, arith}
use Rattle.assignment.specs.Places.{Inside}
use Rattle.paths.specs.Paths.{paths_of}
use Rattle.deciding.specs.Outcome.{fresh, outcome}
use Rattle.game.specs.AfterMoves.{contested, standing, displaced}
use Rattle.game.specs.Texts.{ordered}
use Rattle.geography.specs.RegionSet.{Holds}
use Rattle.position.specs.Position.{board_of, game_of}
use Rattle.deciding.specs.Outcome.{settle, close, report_one}
use Rattle.adjudicator.proofs.Bounds.{fresh_few, fresh_inside}
use Rattle.adjudicator.proofs.Standing.{decides_right, decides_anyhow}
use Rattle.adjudicator.proofs.moves.play_moves.Goals as goal
use Rattle.adjudicator.proofs.moves.play_moves.Goals.{In_ok-fresh, In_ok-done}

-- the orders as played
played : (c : In_ok-fresh) → vec_items c.in_ok-fresh.fresh ≡ fresh (board_of c.args.p.now) (ordered (vec_items c.args.p.now.units) (vec_items c.args.texts.now.list))
played c = c.in_ok-fresh.ensures ∙ ap (λ us. fresh (board_of c.args.p.now) (ordered us (vec_items c.args.texts.now.list))) c.as_slice.ensures.value

-- and what becomes of them
decided : (c : In_ok-done) → vec_items c.in_ok-done.done.outcome ≡ outcome (board_of c.args.p.now) (ordered (vec_items c.args.p.now.units) (vec_items c.args.texts.now.list))
decided c = c.in_ok-done.ensures.outcome ∙ ap (λ xs. close (settle (board_of c.args.p.now) xs)) (played (goal.at.In_ok-done c).In_ok-fresh)

pub adjudicate-requires : goal.adjudicate-requires
adjudicate-requires c =
    let p = c.args.p.now in
    let is = played (goal.at.adjudicate-requires c).In_ok-fresh in
    let few = fresh_few (board_of p) (game_of p) p.atlas.good p.legal (vec_items c.args.texts.now.list) in
    record {
      few = omega (arith, c.in_ok-fresh.fresh.ok.0, ap length is);
      inside = subst Inside (sym is) (fresh_inside (board_of p) (game_of p) p.atlas.good p.legal (vec_items c.args.texts.now.list));
    }

pub contested-barred-requires : goal.contested-barred-requires
contested-barred-requires c =
    let told = c.in_ok-done.ensures in
    c.as_slice-4.ensures.value ∙ told.paths ∙ ap (paths_of (board_of c.args.p.now)) (sym told.outcome ∙ sym c.as_slice-3.ensures.value)

pub returns : goal.returns
returns c =
    let m = board_of c.args.p.now in
    let is = decided (goal.at.returns c).In_ok-done in
    let of = c.in_ok-arrivals.ensures ∙ c.as_slice-2.ensures.value ∙ is in
    let fresh-is = played (goal.at.returns c).In_ok-fresh in
    record {
      moved =
          record {
            units = c.in_ok-units.ensures ∙ ap standing of;
            dislodged = c.in_ok-dislodged.ensures ∙ ap displaced of;
            barred = subst (λ xs. Holds c.contested-barred.result (contested m xs)) (c.as_slice-3.ensures.value ∙ is) c.contested-barred.ensures;
            reports = c.in_ok-done.ensures.reports ∙ ap (λ xs. map (report_one (close (settle m xs))) (settle m xs)) fresh-is;
          };
      promised = decides_right c.args.p.now (vec_items c.args.texts.now.list);
      any_order = decides_anyhow c.args.p.now (vec_items c.args.texts.now.list);
    }
