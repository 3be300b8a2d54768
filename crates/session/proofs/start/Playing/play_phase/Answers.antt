use Rattle.std.proofs.Common.{◌≡◌, ◌++◌, length, vec_items, IfOk, ap, ◌∙◌, subst}
use Rattle.game.specs.Turn.{turn}
use Rattle.position.specs.Position.{board_of, game_of}
use Rattle.show.specs.Game.{game_bytes}
use Rattle.session.specs.declared.start.Gazetteer.{Gazetteer}
use Rattle.session.specs.Tables.{place_names}
use Rattle.session.proofs.Telling.{with_lines, game_only, stands-next}
use Rattle.session.proofs.start.Playing.play_phase.Goals as goal
use Rattle.session.proofs.start.Playing.play_phase.Goals.{After-push_position, then-tells+in_ok-play_told, else-tells+in_ok-advance+in-Some-1, else-tells+in_ok-advance+in-None-1}

abbrev same_places : After-push_position → Type 0
same_places c = c.if-tells.self.places ≡ c.args.self.now.places

abbrev same_board : After-push_position → Type 0
same_board c = board_of c.if-tells.self.position ≡ board_of c.args.self.now.position

abbrev onward : After-push_position → Type 0
onward c = game_of c.if-tells.self.position ≡ turn (board_of c.args.self.now.position) (game_of c.args.self.now.position) (vec_items c.args.texts.now.list)

-- the next game, under the names that the board had before
next_game : (c : After-push_position) → same_places c → IfOk c.push_position.result (λ _. vec_items c.push_position.new.out ≡ vec_items c.if-tells.out ++ game_bytes (place_names c.args.self.now.places) (length (board_of c.if-tells.self.position).regions) (game_of c.if-tells.self.position))
next_game c places =
    subst (λ (names : Gazetteer). IfOk c.push_position.result (λ _. vec_items c.push_position.new.out ≡ vec_items c.if-tells.out ++ game_bytes (place_names names) (length (board_of c.if-tells.self.position).regions) (game_of c.if-tells.self.position)))
    places c.push_position.ensures

pub returns : goal.returns
returns c =
    let m = board_of c.args.self.now.position in
    let g = game_of c.args.self.now.position in
    let names = place_names c.args.self.now.places in
    let ws = vec_items c.args.texts.now.list in
    let old = vec_items c.args.out.now in
    let was = vec_items c.if-tells.out in
    let now = vec_items c.push_position.new.out in
    let r = c.push_position.result in
    elim c.if-tells.branch [
      | then-tells+in_ok-play_told w ↦
          let after = w.in_ok-play_told.ensures in
          let places : same_places c = ap (λ s. s.places) w.self-is ∙ after.places in
          let board : same_board c = ap (λ s. board_of s.position) w.self-is ∙ after.board in
          let next : onward c = ap (λ s. game_of s.position) w.self-is ∙ after.game in
          record {
            places = places;
            board = board;
            game = stands-next names m g ws r old was now _ _ board next (next_game c places);
            bytes = with_lines names m g ws r old was now _ _ board next (next_game c places) c.args.tells w.if-tells.true (ap vec_items w.out-is ∙ after.lines);
          }
      | else-tells+in_ok-advance+in-Some-1 w ↦
          let after = w.in_ok-advance.ensures in
          let places : same_places c = ap (λ s. s.places) w.self-is in
          let board : same_board c = ap (λ s. board_of s.position) w.self-is ∙ after.board in
          let next : onward c = ap (λ s. game_of s.position) w.self-is ∙ after.game in
          record {
            places = places;
            board = board;
            game = stands-next names m g ws r old was now _ _ board next (next_game c places);
            bytes = game_only names m g ws r old was now _ _ board next (next_game c places) c.args.tells w.if-tells.false (ap vec_items w.out-is);
          }
      | else-tells+in_ok-advance+in-None-1 w ↦
          let after = w.in_ok-advance.ensures in
          let places : same_places c = ap (λ s. s.places) w.self-is in
          let board : same_board c = ap (λ s. board_of s.position) w.self-is ∙ after.board in
          let next : onward c = ap (λ s. game_of s.position) w.self-is ∙ after.game in
          record {
            places = places;
            board = board;
            game = stands-next names m g ws r old was now _ _ board next (next_game c places);
            bytes = game_only names m g ws r old was now _ _ board next (next_game c places) c.args.tells w.if-tells.false (ap vec_items w.out-is);
          }
    ]
