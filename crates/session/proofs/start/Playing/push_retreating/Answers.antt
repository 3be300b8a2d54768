use Rattle.std.proofs.Common.{◌++◌, vec_items, sym, ap, ◌∙◌}
use Rattle.std.proofs.lemmas.Result.{IfOk-weaker}
use Rattle.position.specs.Position.{board_of, game_of}
use Rattle.show.specs.Reports.{retreat_lines}
use Rattle.session.specs.Tables.{place_names}
use Rattle.session.proofs.start.Playing.push_retreating.Goals as goal

pub returns : goal.returns
returns c =
    let p = c.args.self.now.position in
    let ws = vec_items c.args.texts.now.list in
    let goals = c.in_ok-goals.ensures.1 (game_of p) (record { units = sym c.as_slice.ensures.value; dislodged = sym c.as_slice-2.ensures.value; barred = c.barred_regions.ensures }) in
    IfOk-weaker c.push_retreats.result _ _
    (λ x told.
    told (board_of p) (game_of p) ws (sym c.printer.ensures.regions) (sym c.as_slice-3.ensures.value) (c.as_slice-4.ensures.value ∙ goals) ∙
    ap (λ places. vec_items c.args.out.now ++ retreat_lines (place_names places) (board_of p) (game_of p) ws) c.printer.ensures.names)
    c.push_retreats.ensures
