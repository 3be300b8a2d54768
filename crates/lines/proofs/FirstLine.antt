-- A text that is not empty is its first line and the others. Assumes nothing.
use Rattle.std.proofs.Common.{◌≡◌, ℕ, suc, ◌+◌, ◌<◌, Bool, true, false, cond, eqb, ltb, List, [], ◌∷◌, length, take, drop, Some, None, sym, refl, ap, ◌∙◌, add-one, arith}
use Rattle.std.specs.List.{position, position_or_len}
use Rattle.std.proofs.lemmas.Bool.{ltb-true, ltb-false}
use Rattle.std.proofs.lemmas.List.{drop_all, take_all}
use Rattle.std.proofs.lemmas.List.Recursion.{is_position_or_len}
use Rattle.lines.specs.Split.{join_first, lines_of}

line_length : List ℕ → ℕ
line_length [] = 0
line_length (b ∷ bs) = cond (eqb b 10) 0 (suc (line_length bs))

-- the first newline, or the end
line_length_is : (bs : List ℕ) → line_length bs ≡ position_or_len (λ b. eqb b 10) bs
unfolding line_length
line_length_is bs = is_position_or_len line_length (λ b. eqb b 10) refl (λ b cs. let e : suc (line_length cs) ≡ 1 + line_length cs = omega arith in ap (cond (eqb b 10) 0) e) bs

first_go : (t : Bool) (b : ℕ) (bs : List ℕ) → ((c : ℕ) (cs : List ℕ) → bs ≡ c ∷ cs → lines_of bs ≡ take (line_length bs) bs ∷ lines_of (drop (suc (line_length bs)) bs)) →
    cond t ([] ∷ lines_of bs) (join_first b (lines_of bs)) ≡ take (cond t 0 (suc (line_length bs))) (b ∷ bs) ∷ lines_of (drop (suc (cond t 0 (suc (line_length bs)))) (b ∷ bs))
unfolding lines_of line_length
first_go true b bs ih = refl
first_go false b [] ih = refl
first_go false b (c ∷ cs) ih = ap (join_first b) (ih c cs refl)

first_cons : (b : ℕ) (bs : List ℕ) → lines_of (b ∷ bs) ≡ take (line_length (b ∷ bs)) (b ∷ bs) ∷ lines_of (drop (suc (line_length (b ∷ bs))) (b ∷ bs))
unfolding lines_of line_length
first_cons b [] = first_go (eqb b 10) b [] (λ c cs e. absurd (let z : ◌≡◌ {A = ℕ} 0 1 = cc in omega arith))
first_cons b (c ∷ cs) = first_go (eqb b 10) b (c ∷ cs) (λ x xs e. first_cons c cs)

first_line : (bs : List ℕ) (n : ℕ) → 0 < length bs → n ≡ position_or_len (λ b. eqb b 10) bs → lines_of bs ≡ take n bs ∷ lines_of (drop (n + 1) bs)
first_line [] n h e = absurd (omega arith)
first_line (b ∷ bs) n h e = let same : line_length (b ∷ bs) ≡ n = line_length_is (b ∷ bs) ∙ sym e in
    first_cons b bs ∙ ap (λ k. take k (b ∷ bs) ∷ lines_of (drop (suc k) (b ∷ bs))) same ∙ ap (λ k. take n (b ∷ bs) ∷ lines_of (drop k (b ∷ bs))) (sym (add-one n))

pub no_line : (bs : List ℕ) → length bs ≡ 0 → lines_of bs ≡ []
unfolding lines_of
no_line [] h = refl
no_line (b ∷ bs) h = absurd (omega arith)

-- a line that a newline ends
pub ended_line : (bs : List ℕ) (n : ℕ) → position (λ b. eqb b 10) bs ≡ Some n → lines_of bs ≡ take n bs ∷ lines_of (drop (n + 1) bs)
ended_line bs n h = go (ltb k (length bs)) refl h
  where
    k : ℕ
    k = position_or_len (λ b. eqb b 10) bs

    go : (t : Bool) → ltb k (length bs) ≡ t → cond t (Some k) None ≡ Some n → lines_of bs ≡ take n bs ∷ lines_of (drop (n + 1) bs)
    go true low e = let same : k ≡ n = cc in let room = ltb-true k (length bs) low in first_line bs n (omega arith) (sym same)
    go false low e = absurd (let z : ◌≡◌ {A = ℕ} 0 1 = cc in omega arith)

-- the last line, that no newline ends
pub last_line : (bs : List ℕ) → 0 < length bs → position (λ b. eqb b 10) bs ≡ None → lines_of bs ≡ bs ∷ lines_of []
last_line bs some h = go (ltb k (length bs)) refl h
  where
    k : ℕ
    k = position_or_len (λ b. eqb b 10) bs

    go : (t : Bool) → ltb k (length bs) ≡ t → cond t (Some k) None ≡ None → lines_of bs ≡ bs ∷ lines_of []
    go true low e = absurd (let z : ◌≡◌ {A = ℕ} 0 1 = cc in omega arith)
    go false low e = let long = ltb-false k (length bs) low in first_line bs k some refl ∙ ap (λ l. l ∷ lines_of (drop (k + 1) bs)) (take_all k bs long) ∙ ap (λ l. bs ∷ lines_of l) (drop_all (k + 1) bs (omega arith))
