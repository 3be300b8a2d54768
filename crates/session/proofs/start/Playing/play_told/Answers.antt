use Rattle.std.proofs.Common.{◌++◌, length, refl, vec_items, ap, ◌∙◌}
use Rattle.std.proofs.lemmas.Result.{IfOk-weaker}
use Rattle.position.specs.Position.{board_of, game_of}
use Rattle.adjudicator.specs.Told.{told}
use Rattle.session.specs.Tables.{place_names, lines_after}
use Rattle.session.proofs.Telling.{told_lines}
use Rattle.session.proofs.start.Playing.play_told.Goals as goal

pub returns : goal.returns
returns c =
    let p = c.args.self.now.position in
    let after = c.in_ok-reports.ensures in
    let printer = c.printer.ensures in
    let texts = c.as_slice.result.now in
    let reports = told c.in_ok-reports.reports in
    record {
      places = refl;
      board = after.board;
      game = IfOk-weaker c.push_after.result _ _ (λ x e. after.game) c.push_after.ensures;
      lines = IfOk-weaker c.push_after.result _ _
          (λ x e. told_lines (place_names c.args.self.now.places) (board_of p) (game_of p) (vec_items c.args.texts.now.list) (vec_items c.args.out.now) (vec_items c.push_before.new.out) _ c.printer.result.regions texts reports
          (printer.regions ∙ ap (λ m. length m.regions) after.board) c.as_slice.ensures.value after.told c.in_ok-push_before.ensures
          (e ∙ ap (λ places. vec_items c.push_before.new.out ++ lines_after (place_names places) c.printer.result.regions texts reports) printer.names))
          c.push_after.ensures;
    }
