use Rattle.std.proofs.Common.{Ok, sym, ap, ◌∙◌}
use Rattle.std.proofs.lemmas.Result.{err_from_is_err_and}
use Rattle.calls.specs.Begin.{begin_verdict}
use Rattle.text.specs.BoardFile.{board_entries}
use Rattle.text.specs.GameFile.{game_entries}
use Rattle.session.specs.Session.{judged, opened}
use Rattle.session.proofs.Begun.{opened_is, same_fault}
use Rattle.session.proofs.opening.open.Goals as goal

pub returns-in_err-position : goal.returns-in_err-position
returns-in_err-position c =
    let p = err_from_is_err_and c.from_residual-in_err-position.result c.from_residual-in_err-position.ensures.1 in
    let b = board_entries c.in_ok-board.board in
    let ws = c.as_slice.result.now in
    rw (p.1, p.2) (same_fault b.names c.in_err-position.field-0.0 (opened c.args.board.now c.args.game.now) (judged b.names ws (begin_verdict ws))
    (opened_is c.args.board.now c.args.game.now b (game_entries c.in_ok-game.game) ws c.in_ok-board.ensures c.in_ok-game.ensures (c.in_ok-words.ensures ∙ ap Ok (sym c.as_slice.ensures.value)))
    (c.in_err-position.ensures b.names))

pub returns : goal.returns
returns c =
    let b = board_entries c.in_ok-board.board in
    let ws = c.as_slice.result.now in
    opened_is c.args.board.now c.args.game.now b (game_entries c.in_ok-game.game) ws c.in_ok-board.ensures c.in_ok-game.ensures (c.in_ok-words.ensures ∙ ap Ok (sym c.as_slice.ensures.value)) ∙
    c.in_ok-position.ensures b.names
