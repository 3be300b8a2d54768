use Rattle.std.proofs.Common.{◌≡◌, cond, ◌&&◌, length, vec_items, sym, ap, ◌∙◌, arith}
use Rattle.deciding.specs.Outcome.{reports}
use Rattle.game.specs.Game.{is_moves}
use Rattle.game.specs.Texts.{ordered}
use Rattle.game.specs.Turn.{turn}
use Rattle.position.specs.Position.{board_of, game_of}
use Rattle.calls.specs.declared.verdict.Verdict.TheVariants.{Accepted}
use Rattle.calls.specs.Verdict.{is_accepted}
use Rattle.calls.specs.Turn.{turn_verdict, texts_verdict, texts_in}
use Rattle.adjudicator.specs.Told.{told, told_in}
use Rattle.adjudicator.proofs.Onward.{told_new, told_old}
use Rattle.adjudicator.proofs.referee.AdjudicatorReferee.turn.Goals as goal
use Rattle.adjudicator.proofs.referee.AdjudicatorReferee.turn.Goals.{in-Some, in_default}

pub returns-after-branch-3 : goal.returns-after-branch-3
returns-after-branch-3 c =
    let old = c.args.self.now in
    let words = c.args.words.now in
    let m = board_of old.position in
    let g = game_of old.position in
    let regions : c.len-regions.result ≡ length (vec_items old.position.atlas.regions) = omega (arith, old.position.atlas.regions.ok.0) in
    let accepted : turn_verdict m words ≡ Accepted = ap (λ n. texts_verdict n words) (sym regions) ∙ c.in-Ok.ensures.0 in
    let written : vec_items c.in_ok-texts-in-Ok.texts.list ≡ texts_in words = c.in_ok-texts-in-Ok.ensures ∙ c.in-Ok.ensures.1 in
    let after = c.in_ok-reports-in-Ok.ensures in
    let game_is = after.game ∙ ap (turn m g) written ∙ sym (ap (λ v. cond (is_accepted v) (turn m g (texts_in words)) g) accepted) in
    let told_is = after.told ∙ ap (told_in m g) written in
    let last-is = sym (ap (λ v. cond (is_accepted v && is_moves g.phase) (reports m (ordered g.units (texts_in words))) (vec_items old.last)) accepted) in
    elim c.match-branch-3.branch [
      | in-Some w ↦
          record {
            verdict = sym accepted;
            board = ap (λ s. board_of s.position) w.self-is ∙ after.board;
            game = ap (λ s. game_of s.position) w.self-is ∙ game_is;
            last = ap (λ s. vec_items s.last) w.self-is ∙ told_new (is_moves g.phase) _ _ (vec_items old.last) (ap told (sym w.in-Some.is) ∙ told_is) ∙ last-is;
          }
      | in_default w ↦
          record {
            verdict = sym accepted;
            board = ap (λ s. board_of s.position) w.self-is ∙ after.board;
            game = ap (λ s. game_of s.position) w.self-is ∙ game_is;
            last = ap (λ s. vec_items s.last) w.self-is ∙ told_old (is_moves g.phase) _ (vec_items old.last) (ap told (sym w.in_default.is) ∙ told_is) ∙ last-is;
          }
    ]
