-- The parts that the code cuts give the board and the game of the words, and so the verdict. Assumes nothing.
use Rattle.std.proofs.Common.{◌≡◌, ℕ, ◌≤◌, Bool, true, false, cond, not, ◌&&◌, ltb, leb, List, map, length, drop, Ok, Err, Option, Result, sym, refl, ap, ◌∙◌, arith}
use Rattle.std.specs.Simd.{first_chunks}
use Rattle.values.specs.Fold.{all, those, is_in}
use Rattle.std.proofs.lemmas.Bool.{and_from, and_left, and_right}
use Rattle.board.specs.Board.{Board, good_board, powers}
use Rattle.game.specs.Lawful.{lawful}
use Rattle.position.specs.declared.position.Position.{Position}
use Rattle.position.specs.Position.{board_of, game_of}
use Rattle.calls.specs.declared.sections.Sections.{Sections}
use Rattle.calls.specs.declared.verdict.Verdict.TheVariants.{Accepted, Misfit, Unlawful}
use Rattle.calls.specs.declared.verdict.Refusal.TheVariants as refusal
use Rattle.calls.specs.declared.fault.Fault.{Fault}
use Rattle.calls.specs.declared.fault.Fault.TheVariants.{Refused, NoMemory}
use Rattle.calls.specs.Verdict.{is_accepted, verdict_of}
use Rattle.calls.specs.Words.{at, every_entry, optional}
use Rattle.calls.specs.Read.{ReadOr, RefusedUnless, RefusedBy, Answered}
use Rattle.calls.specs.Begin.{region_count, unit_count, out_count, barred_count, region_words, unit_words, owner_words, phase_words, out_words, barred_words, region_in, good_region, edge_in, unit_in, good_unit, dislodged_in, phase_in, march_count, sail_count, march_words, sail_words, board_in, game_in, words_mean, begin_verdict}
use Rattle.calls.specs.Sections.{front_fits, back_fits, Cut}
use Rattle.calls.specs.Strict.{board_parts, board_good, game_parts, game_means, game_good}
use Rattle.calls.proofs.Fits.{halves, limits, Rooms, rooms, out_room, barred_all}
use Rattle.calls.proofs.Barred.{every_word}
use Rattle.calls.proofs.Entries.{length-chunks, map_chunks, all_chunks, one_word, two_words, three_words, four_words}

-- the words of the game, as the verdict asks them
abbrev rest_means : List ℕ → Bool
rest_means ws =
    every_entry (unit_count ws) 3 good_unit (unit_words ws) && (every_entry (region_count ws) 1 (λ vs. leb (at vs 0) powers) (owner_words ws) &&
    (ltb (at (phase_words ws) 0) 5 && (every_entry (out_count ws) 4 (λ vs. good_unit vs && leb (at vs 3) (region_count ws)) (out_words ws) &&
    every_entry (barred_count ws) 1 (λ vs. ltb (at vs 0) (region_count ws)) (drop 1 (barred_words ws)))))

swap : (a b c d : Bool) → ((a && b) && (c && d)) ≡ ((a && c) && (b && d))
swap true true c d = refl
swap true false true d = refl
swap true false false d = refl
swap false b c d = refl

module _ (ws : List ℕ) (s : Sections) (is : Cut ws s) where
  fits : (front_fits ws ≡ true) × (back_fits ws ≡ true)
  fits = halves ws is.fit

  room : Rooms ws
  room = rooms ws fits.0

  counted : length s.front.regions.now ≡ region_count ws
  counted = ap length is.front.regions ∙ length-chunks 3 (region_count ws) (region_words ws)

  pub cut_few : length s.front.regions.now ≤ 128
  cut_few = let few = (limits ws fits.0).regions in omega (arith, counted)

  pub board_is : board_parts s ≡ board_in ws
  board_is =
      let regions = ap (map region_in) is.front.regions ∙ map_chunks 3 region_in (three_words region_in (λ a b c more. refl)) (region_count ws) (region_words ws) room.regions in
      let march = ap (map edge_in) is.front.march ∙ map_chunks 2 edge_in (two_words edge_in (λ a b more. refl)) (march_count ws) (march_words ws) room.march in
      let sail = ap (map edge_in) is.front.sail ∙ map_chunks 2 edge_in (two_words edge_in (λ a b more. refl)) (sail_count ws) (sail_words ws) room.sail in
      λ i. record { regions = regions i; march = march i; sail = sail i }

  pub game_is : game_parts s ≡ game_in ws
  game_is =
      let units = ap (map unit_in) is.front.units ∙ map_chunks 3 unit_in (three_words unit_in (λ a b c more. refl)) (unit_count ws) (unit_words ws) room.units in
      let dislodged = ap (map dislodged_in) is.dislodged ∙ map_chunks 4 dislodged_in (four_words dislodged_in (λ a b c d more. refl)) (out_count ws) (out_words ws) (out_room ws fits.1).1 in
      let owner : List ℕ → Option ℕ = λ vs. optional (at vs 0) in
      let owners = ap (map owner) is.front.owners ∙ map_chunks 1 owner (one_word owner (λ a more. refl)) (region_count ws) (owner_words ws) room.owners in
      let barred : those (length s.front.regions.now) (λ r. is_in r s.barred.now) ≡ those (region_count ws) (λ r. is_in r (drop 1 (barred_words ws))) = λ i. those (counted i) (λ r. is_in r (is.barred i)) in
      λ i. record { phase = phase_in (is.phase i); units = units i; dislodged = dislodged i; barred = barred i; owners = owners i }

  regions_are : all good_region s.front.regions.now ≡ every_entry (region_count ws) 3 good_region (region_words ws)
  regions_are = ap (all good_region) is.front.regions ∙ all_chunks 3 good_region (three_words good_region (λ a b c more. refl)) (region_count ws) (region_words ws) room.regions

  means_is : game_means s ≡ rest_means ws
  means_is =
      let owner : List ℕ → Bool = λ vs. leb (at vs 0) powers in
      let out : ℕ → List ℕ → Bool = λ n vs. good_unit vs && leb (at vs 3) n in
      let n = region_count ws in
      let units = ap (all good_unit) is.front.units ∙ all_chunks 3 good_unit (three_words good_unit (λ a b c more. refl)) (unit_count ws) (unit_words ws) room.units in
      let owners = ap (all owner) is.front.owners ∙ all_chunks 1 owner (one_word owner (λ a more. refl)) n (owner_words ws) room.owners in
      let from : all (out (length s.front.regions.now)) s.dislodged.now ≡ all (out n) (first_chunks 4 (out_count ws) (out_words ws)) = λ i. all (out (counted i)) (is.dislodged i) in
      let dislodged = from ∙ all_chunks 4 (out n) (four_words (out n) (λ a b c d more. refl)) (out_count ws) (out_words ws) (out_room ws fits.1).1 in
      let low : all (λ w. ltb w (length s.front.regions.now)) s.barred.now ≡ all (λ w. ltb w n) (drop 1 (barred_words ws)) = λ i. all (λ w. ltb w (counted i)) (is.barred i) in
      let barred = low ∙ sym (every_word (λ w. ltb w n) (drop 1 (barred_words ws))) ∙ ap (λ k. every_entry k 1 (λ vs. ltb (at vs 0) n) (drop 1 (barred_words ws))) (barred_all ws fits.1) in
      λ i. units i && (owners i && (ltb (is.phase i) 5 && (dislodged i && barred i)))

  good_is : (board_good s && game_good (board_parts s) s) ≡ (words_mean ws && (good_board (board_in ws) && lawful (board_in ws) (game_in ws)))
  good_is =
      swap (all good_region s.front.regions.now) (good_board (board_parts s)) (game_means s) (lawful (board_parts s) (game_parts s)) ∙
      ap (λ b. (b && game_means s) && (good_board (board_parts s) && lawful (board_parts s) (game_parts s))) regions_are ∙
      ap (λ b. (every_entry (region_count ws) 3 good_region (region_words ws) && b) && (good_board (board_parts s) && lawful (board_parts s) (game_parts s))) means_is ∙
      ap (λ m. words_mean ws && (good_board m && lawful m (game_parts s))) board_is ∙
      ap (λ g. words_mean ws && (good_board (board_in ws) && lawful (board_in ws) g)) game_is

  verdict_is : (b : Bool) → (board_good s && game_good (board_parts s) s) ≡ b → begin_verdict ws ≡ cond (not b) Unlawful Accepted
  verdict_is b h =
      ap (λ t. cond (not t) Misfit (cond (not (words_mean ws && (good_board (board_in ws) && lawful (board_in ws) (game_in ws)))) Unlawful Accepted)) is.fit ∙
      ap (λ t. cond (not t) Unlawful Accepted) (sym good_is ∙ h)

  -- a refusal of the board
  pub board_refused : (e : Fault) → RefusedUnless (board_good s) refusal.Unlawful e → RefusedBy (begin_verdict ws) e
  board_refused (Refused u) h =
      let v = verdict_is false (and_left (board_good s) (game_good (board_parts s) s) h.0) in
      (ap verdict_of h.1 ∙ sym v, ap is_accepted v)
  board_refused NoMemory h = tt

  -- what comes of the game on a good board
  pub game_answered : (m : Board) (r : Result Position Fault) → board_good s ≡ true → m ≡ board_parts s → ReadOr (game_good m s) (λ p. (board_of p ≡ m) × (game_of p ≡ game_parts s)) refusal.Unlawful r →
      Answered (begin_verdict ws) (λ p. (board_of p ≡ board_in ws) × (game_of p ≡ game_in ws)) r
  game_answered m (Ok p) good same h =
      (verdict_is true (and_from (board_good s) (game_good (board_parts s) s) good (ap (λ b. game_good b s) (sym same) ∙ h.0)), (h.1.0 ∙ same ∙ board_is, h.1.1 ∙ game_is))
  game_answered m (Err (Refused u)) good same h =
      let v = verdict_is false (and_right (board_good s) (game_good (board_parts s) s) (ap (λ b. game_good b s) (sym same) ∙ h.0)) in
      (ap verdict_of h.1 ∙ sym v, ap is_accepted v)
  game_answered m (Err NoMemory) good same h = tt
