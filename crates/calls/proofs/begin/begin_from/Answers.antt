use Rattle.std.proofs.Common.{length, ap, ◌∙◌}
use Rattle.std.proofs.lemmas.List.{length-map}
use Rattle.std.proofs.lemmas.Result.{err_from_is_err_and}
use Rattle.board.specs.Atlas.{board_of}
use Rattle.calls.specs.Begin.{region_in}
use Rattle.calls.specs.Sections.{Cut}
use Rattle.calls.proofs.Taken.{taken, known}
use Rattle.calls.proofs.Beginning.{cut_few, board_refused, game_answered}
use Rattle.calls.proofs.begin.begin_from.Goals as goal
use Rattle.calls.proofs.begin.begin_from.Goals.{In_ok-sections}

-- the sections are those of the words
sections : (c : In_ok-sections) → Cut c.args.words.now c.in_ok-sections.sections
sections c = known _ (Cut c.args.words.now) _ _ (taken _ _ c.ok_or.result _ c.ok_or.ensures.value c.in_ok-sections.was) c.cut.ensures

pub read_board-requires : goal.read_board-requires
read_board-requires c = cut_few c.args.words.now c.in_ok-sections.sections (sections (goal.at.read_board-requires c).In_ok-sections)

pub returns-in_err-atlas : goal.returns-in_err-atlas
returns-in_err-atlas c =
    let p = err_from_is_err_and c.from_residual-in_err-atlas.result c.from_residual-in_err-atlas.ensures.1 in
    rw (p.1, p.2) (board_refused c.args.words.now c.in_ok-sections.sections (sections (goal.at.returns-in_err-atlas c).In_ok-sections) c.in_err-atlas.field-0.0 c.in_err-atlas.ensures)

pub read_game-requires : goal.read_game-requires
read_game-requires c =
    let s = c.in_ok-sections.sections in
    record {
      few = cut_few c.args.words.now s (sections (goal.at.read_game-requires c).In_ok-sections);
      same = ap (λ m. length m.regions) c.in_ok-atlas.ensures.1 ∙ length-map s.front.regions.now region_in;
    }

pub returns : goal.returns
returns c =
    game_answered c.args.words.now c.in_ok-sections.sections (sections (goal.at.returns c).In_ok-sections) (board_of c.in_ok-atlas.atlas) c.read_game.result c.in_ok-atlas.ensures.0 c.in_ok-atlas.ensures.1 c.read_game.ensures
