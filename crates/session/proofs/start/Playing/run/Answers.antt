use Rattle.std.proofs.Common.{◌++◌, drop, vec_items, ◌+◌, sym, ◌∙◌, arith}
use Rattle.position.specs.Position.{board_of, game_of}
use Rattle.session.specs.Session.{run_bytes}
use Rattle.session.specs.Tables.{place_names, turns_in}
use Rattle.session.proofs.Running.{run_on, run_stops, run_end}
use Rattle.session.proofs.start.Playing.run.Goals as goal

pub returns-then-not-branch : goal.returns-then-not-branch
returns-then-not-branch c =
    let l = c.loop-words in
    let told = c.in_ok-play_words.ensures in
    record {
      places = told.places ∙ l.invariant.0;
      bytes = run_stops c.args.tells (place_names l.self.places) (board_of l.self.position) (game_of l.self.position) c.args.turns.now l.words-index _ (vec_items l.out) l.invariant.1
          _ c.loop-words-test.true (vec_items c.play_words.new.out) told.bytes (sym told.accepted ∙ c.if-not-branch.true);
    }

pub loop-words-preserved : goal.loop-words-preserved
loop-words-preserved c =
    let l = c.loop-words in
    let after = c.play_words.new.self in
    let told = c.in_ok-play_words.ensures in (
      told.places ∙ l.invariant.0,
      (λ i. vec_items c.play_words.new.out ++ run_bytes c.args.tells (place_names (told.places i)) (board_of after.position) (game_of after.position) (turns_in (drop (l.words-index + 1) c.args.turns.now))) ∙
          run_on c.args.tells (place_names l.self.places) (board_of l.self.position) (game_of l.self.position) c.args.turns.now l.words-index _ (vec_items l.out) l.invariant.1
          _ c.loop-words-test.true (vec_items c.play_words.new.out) told.bytes (board_of after.position) (game_of after.position) (sym told.accepted ∙ c.if-not-branch.false) told.board told.game,
    )

pub returns : goal.returns
returns c =
    let l = c.loop-words in
    record { places = l.invariant.0; bytes = run_end c.args.tells (place_names l.self.places) (board_of l.self.position) (game_of l.self.position) c.args.turns.now l.words-index _ (vec_items l.out) l.invariant.1 (omega arith) }
