use Rattle.std.proofs.Common.{◌≡◌, ◌++◌, drop, vec_items}
use Rattle.position.specs.Position.{board_of, game_of}
use Rattle.session.specs.Session.{run_bytes}
use Rattle.session.specs.Tables.{place_names, turns_in}
use Rattle.session.proofs.start.Playing.run.Given as goal

abbrev pub invariant-loop-words : goal.invariant-loop-words
invariant-loop-words l = (l.self.places ≡ l.initial.self.places) × (vec_items l.out ++ run_bytes l.tells (place_names l.self.places) (board_of l.self.position) (game_of l.self.position) (turns_in (drop l.words-index l.turns)) ≡ vec_items l.initial.out ++ run_bytes l.tells (place_names l.initial.self.places) (board_of l.initial.self.position) (game_of l.initial.self.position) (turns_in l.turns))
