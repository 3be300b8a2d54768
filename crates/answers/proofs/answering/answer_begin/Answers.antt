use Rattle.std.proofs.Common.{◌≡◌, string_bytes, sym, refl, ◌∙◌}
use Rattle.answers.specs.Answers.{stood_by, after_begin}
use Rattle.answers.proofs.Spoken.{begin_spoken}
use Rattle.answers.proofs.answering.answer_begin.Goals as goal

pub returns-in_ok-push_game : goal.returns-in_ok-push_game
returns-in_ok-push_game c =
    let s = stood_by c.args.referee.now in
    let t = stood_by c.begin.new.referee in
    let done = c.in_ok-verdict.ensures in
    let new : t ≡ after_begin s c.args.words.now = rw (done.board, done.game, done.last) refl in (
      begin_spoken s t c.args.words.now c.in_ok-verdict.verdict c.number.result (string_bytes c.args.out.now) (string_bytes c.push_line.new.out) (string_bytes c.push_game.new.out)
          done.verdict (sym c.is_accepted.ensures ∙ c.if-is_accepted.true) c.number.ensures new c.in_ok-push_line.ensures c.in_ok-push_game.ensures,
      new,
    )
