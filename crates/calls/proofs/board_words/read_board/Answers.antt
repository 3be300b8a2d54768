use Rattle.std.proofs.Common.{◌≡◌, true, false, length}
use Rattle.std.proofs.lemmas.List.{length-map}
use Rattle.std.proofs.lemmas.Result.{err_from_is_err_and}
use Rattle.std.proofs.lemmas.Bool.{and_right}
use Rattle.values.specs.Fold.{all}
use Rattle.board.specs.Board.{good_board}
use Rattle.calls.specs.declared.sections.Sections.{Sections}
use Rattle.calls.specs.declared.verdict.Refusal.TheVariants.{Unlawful}
use Rattle.calls.specs.Begin.{region_in, good_region}
use Rattle.calls.specs.Strict.{ends_on, board_parts, board_good}
use Rattle.calls.proofs.Strict.{handed_on, edges_bad, march_bad, sail_bad}
use Rattle.calls.proofs.board_words.read_board.Goals as goal

march_ill : (s : Sections) → all (ends_on (length s.front.regions.now)) s.front.march.now ≡ false → board_good s ≡ false
march_ill s bad =
    and_right (all good_region s.front.regions.now) (good_board (board_parts s))
    (march_bad (board_parts s) (edges_bad (board_parts s) false (length s.front.regions.now) s.front.march.now (length-map s.front.regions.now region_in) bad))

sail_ill : (s : Sections) → all (ends_on (length s.front.regions.now)) s.front.sail.now ≡ false → board_good s ≡ false
sail_ill s bad =
    and_right (all good_region s.front.regions.now) (good_board (board_parts s))
    (sail_bad (board_parts s) (edges_bad (board_parts s) true (length s.front.regions.now) s.front.sail.now (length-map s.front.regions.now region_in) bad))

pub returns-in_err-march : goal.returns-in_err-march
returns-in_err-march c =
    let p = err_from_is_err_and c.from_residual-in_err-march.result c.from_residual-in_err-march.ensures.1 in
    rw (p.1, p.2) (handed_on _ (board_good c.args.s.now) Unlawful c.in_err-march.field-0.0 (march_ill c.args.s.now) c.in_err-march.ensures)

pub returns-in_err-sail : goal.returns-in_err-sail
returns-in_err-sail c =
    let p = err_from_is_err_and c.from_residual-in_err-sail.result c.from_residual-in_err-sail.ensures.1 in
    rw (p.1, p.2) (handed_on _ (board_good c.args.s.now) Unlawful c.in_err-sail.field-0.0 (sail_ill c.args.s.now) c.in_err-sail.ensures)
