-- The parts of an answer, one behind the other, are the answer; and answers line by line are all of them. Assumes nothing.
use Rattle.std.proofs.Common.{◌≡◌, ℕ, Bool, true, false, cond, List, [], ◌∷◌, ◌++◌, Some, codes, sym, ap, ◌∙◌, append_assoc, append-nil}
use Rattle.game.specs.Game.{is_moves}
use Rattle.lines.specs.declared.call.Key.{Key}
use Rattle.lines.specs.Calls.{call_in}
use Rattle.lines.specs.Print.{line_bytes}
use Rattle.calls.specs.declared.verdict.Verdict.{Verdict}
use Rattle.calls.specs.Verdict.{number, is_accepted}
use Rattle.calls.specs.Begin.{begin_verdict}
use Rattle.calls.specs.Turn.{turn_verdict}
use Rattle.answers.specs.Answers.{Standing, after_begin, after_turn, game_line, last_line, verdict_line, begin_bytes, turn_bytes, key_after, key_bytes, called_after, called_bytes, after, answer_bytes, all_bytes}

-- a verdict's line, and behind it what an accepted call shows
accepted : (key : List ℕ) (u v : Verdict) (k : ℕ) (shown o p q : List ℕ) → v ≡ u → is_accepted v ≡ true → k ≡ number v → p ≡ o ++ line_bytes key (k ∷ []) → q ≡ p ++ shown → q ≡ o ++ (verdict_line key u ++ cond (is_accepted u) shown [])
accepted key u v k shown o p q is sure n first second =
    second ∙ ap (λ l. l ++ shown) first ∙ append_assoc o (line_bytes key (k ∷ [])) shown ∙ ap (λ j. o ++ (line_bytes key (j ∷ []) ++ shown)) (n ∙ ap number is) ∙
    ap (λ t. o ++ (verdict_line key u ++ cond t shown [])) (sym sure ∙ ap is_accepted is)

pub begin_spoken : (s t : Standing) (ws : List ℕ) (v : Verdict) (k : ℕ) (o p q : List ℕ) → v ≡ begin_verdict ws → is_accepted v ≡ true → k ≡ number v → t ≡ after_begin s ws →
    p ≡ o ++ line_bytes (codes "begin") (k ∷ []) → q ≡ p ++ game_line t → q ≡ o ++ begin_bytes s ws
begin_spoken s t ws v k o p q is sure n new first second = accepted (codes "begin") (begin_verdict ws) v k (game_line (after_begin s ws)) o p q is sure n first (second ∙ ap (λ x. p ++ game_line x) new)

pub turn_spoken : (s t : Standing) (ws : List ℕ) (v : Verdict) (k : ℕ) (moves : Bool) (o p m q : List ℕ) → v ≡ turn_verdict s.board ws → is_accepted v ≡ true → k ≡ number v → t ≡ after_turn s ws → moves ≡ is_moves s.game.phase →
    p ≡ o ++ line_bytes (codes "turn") (k ∷ []) → m ≡ p ++ cond moves (last_line t) [] → q ≡ m ++ game_line t → q ≡ o ++ turn_bytes s ws
turn_spoken s t ws v k moves o p m q is sure n new phase first told second =
    accepted (codes "turn") (turn_verdict s.board ws) v k (cond (is_moves s.game.phase) (last_line (after_turn s ws)) [] ++ game_line (after_turn s ws)) o p q is sure n first
    (second ∙ ap (λ l. l ++ game_line t) told ∙ append_assoc p (cond moves (last_line t) []) (game_line t) ∙ ap (λ x. p ++ (cond moves (last_line x) [] ++ game_line x)) new ∙
    ap (λ b. p ++ (cond b (last_line (after_turn s ws)) [] ++ game_line (after_turn s ws))) phase)

pub told_yes : (moves : Bool) (p m shown : List ℕ) → moves ≡ true → m ≡ p ++ shown → m ≡ p ++ cond moves shown []
told_yes moves p m shown sure h = h ∙ ap (λ b. p ++ cond b shown []) (sym sure)

pub told_no : (moves : Bool) (p m shown : List ℕ) → moves ≡ false → m ≡ p → m ≡ p ++ cond moves shown []
told_no moves p m shown not h = h ∙ sym (append-nil p) ∙ ap (λ b. p ++ cond b shown []) (sym not)

-- a line that is a call
pub call_spoken : (s t : Standing) (line : List ℕ) (k : Key) (ws o q : List ℕ) → call_in line ≡ Some (record { key = k; words = ws }) → q ≡ o ++ key_bytes s k ws → t ≡ key_after s k ws → (q ≡ o ++ answer_bytes s line) × (t ≡ after s line)
call_spoken s t line k ws o q is bytes new = (bytes ∙ ap (λ c. o ++ called_bytes s c) (sym is), new ∙ ap (called_after s) (sym is))

-- one line more, and the end
pub all_more : (s t : Standing) (line : List ℕ) (lines rest : List (List ℕ)) (o q whole : List ℕ) → lines ≡ line ∷ rest → o ++ all_bytes s lines ≡ whole → q ≡ o ++ answer_bytes s line → t ≡ after s line → q ++ all_bytes t rest ≡ whole
unfolding all_bytes
all_more s t line lines rest o q whole cut so_far bytes new =
    ap (λ l. l ++ all_bytes t rest) bytes ∙ append_assoc o (answer_bytes s line) (all_bytes t rest) ∙ ap (λ x. o ++ (answer_bytes s line ++ all_bytes x rest)) new ∙ ap (λ ls. o ++ all_bytes s ls) (sym cut) ∙ so_far

pub all_none : (s : Standing) (lines : List (List ℕ)) (o whole : List ℕ) → lines ≡ [] → o ++ all_bytes s lines ≡ whole → o ≡ whole
unfolding all_bytes
all_none s lines o whole none so_far = sym (append-nil o) ∙ ap (λ ls. o ++ all_bytes s ls) (sym none) ∙ so_far
