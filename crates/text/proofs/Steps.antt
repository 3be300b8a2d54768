-- A text that is not empty is its first line and the others; a line is its first word and the others. Assumes nothing.
use Rattle.std.proofs.Common.{◌≡◌, ℕ, zero, suc, ◌+◌, ◌-◌, ◌<◌, ◌≤◌, Bool, true, false, cond, eqb, ltb, ◌⊎◌, List, [], ◌∷◌, ◌++◌, length, get_or, take, drop, sym, refl, ap, ◌∙◌, inl, inr, append_assoc, append-nil, add-one, arith}
use Rattle.std.proofs.lemmas.Bool.{ltb-true, lt-ltb, le-ltb, cases_lt}
use Rattle.std.proofs.lemmas.List.{drop_more, drop_all, take_rest}
use Rattle.text.specs.Lines.{lines_of, words_of, part_length, join_first}
use Rattle.text.specs.Words.{is_end}

pub byte_more : (xs : List ℕ) (i : ℕ) → i < length xs → drop i xs ≡ get_or xs i 0 ∷ drop (i + 1) xs
byte_more xs i h = drop_more xs i 0 h

pub ruleset steps = (byte_more, drop_all, append-nil, append_assoc)

first_go : (t : Bool) (b : ℕ) (bs : List ℕ) → ((c : ℕ) (cs : List ℕ) → bs ≡ c ∷ cs → lines_of bs ≡ take (part_length 10 bs) bs ∷ lines_of (drop (suc (part_length 10 bs)) bs)) → cond t ([] ∷ lines_of bs) (join_first b (lines_of bs)) ≡ take (cond t 0 (suc (part_length 10 bs))) (b ∷ bs) ∷ lines_of (drop (suc (cond t 0 (suc (part_length 10 bs)))) (b ∷ bs))
unfolding lines_of part_length
first_go true b bs ih = refl
first_go false b [] ih = refl
first_go false b (c ∷ cs) ih = ap (join_first b) (ih c cs refl)

first_cons : (b : ℕ) (bs : List ℕ) → lines_of (b ∷ bs) ≡ take (part_length 10 (b ∷ bs)) (b ∷ bs) ∷ lines_of (drop (suc (part_length 10 (b ∷ bs))) (b ∷ bs))
unfolding lines_of part_length
first_cons b [] = first_go (eqb b 10) b [] (λ c cs e. absurd (let z : ◌≡◌ {A = ℕ} 0 1 = cc in omega arith))
first_cons b (c ∷ cs) = first_go (eqb b 10) b (c ∷ cs) (λ x xs e. first_cons c cs)

pub first_line : (bs : List ℕ) → 0 < length bs → lines_of bs ≡ take (part_length 10 bs) bs ∷ lines_of (drop (part_length 10 bs + 1) bs)
first_line [] h = absurd (omega arith)
first_line (b ∷ bs) h = first_cons b bs ∙ ap (λ n. take (part_length 10 (b ∷ bs)) (b ∷ bs) ∷ lines_of (drop n (b ∷ bs))) (sym (add-one (part_length 10 (b ∷ bs))))

pub no_line : (bs : List ℕ) → length bs ≡ 0 → lines_of bs ≡ []
unfolding lines_of
no_line [] h = refl
no_line (b ∷ bs) h = absurd (omega arith)

-- where the next line begins: past the line's end, or at the text's
pub next_line : (bs : List ℕ) (n k : ℕ) → 0 < length bs → n ≡ part_length 10 bs → ((n < length bs) × (k ≡ n + 1)) ⊎ ((length bs ≤ n) × (k ≡ n)) → lines_of bs ≡ take (n - 0) bs ∷ lines_of (take (length bs - k) (drop k bs))
next_line bs n k some e (inl p) =
    first_line bs some ∙ ap (λ m. take m bs ∷ lines_of (drop (m + 1) bs)) (sym e) ∙ (let a : n - 0 ≡ n = omega arith in let b = take_rest bs k in let d = p.1 in rw (a, b, d) refl)
next_line bs n k some e (inr p) =
    first_line bs some ∙ ap (λ m. take m bs ∷ lines_of (drop (m + 1) bs)) (sym e) ∙ (let a : n - 0 ≡ n = omega arith in let b = take_rest bs k in let d = p.1 in let x = drop_all (n + 1) bs (omega arith) in let y = drop_all n bs p.0 in rw (a, b, d, x, y) refl)

-- a line is its first word and, behind a space, the others
abbrev pub others : ℕ → List ℕ → List (List ℕ)
others n bs = cond (ltb n (length bs)) (words_of (drop (suc n) bs)) []

ltb_suc : (a b : ℕ) → ltb (suc a) (suc b) ≡ ltb a b
ltb_suc a b =
    elim (cases_lt a b) [
      | inl h ↦ lt-ltb (suc a) (suc b) (omega arith) ∙ sym (lt-ltb a b h)
      | inr h ↦ le-ltb (suc a) (suc b) (omega arith) ∙ sym (le-ltb a b h)
    ]

word_go : (t : Bool) (b : ℕ) (bs : List ℕ) → words_of bs ≡ take (part_length 32 bs) bs ∷ others (part_length 32 bs) bs → cond t ([] ∷ words_of bs) (join_first b (words_of bs)) ≡ take (cond t 0 (suc (part_length 32 bs))) (b ∷ bs) ∷ others (cond t 0 (suc (part_length 32 bs))) (b ∷ bs)
unfolding words_of part_length
word_go true b bs ih = ap (λ t. [] ∷ cond t (words_of bs) []) (sym (lt-ltb 0 (suc (length bs)) (omega arith)))
word_go false b bs ih = ap (join_first b) ih ∙ ap (λ t. (b ∷ take (part_length 32 bs) bs) ∷ cond t (words_of (drop (suc (part_length 32 bs)) bs)) []) (sym (ltb_suc (part_length 32 bs) (length bs)))

pub first_word : (bs : List ℕ) → words_of bs ≡ take (part_length 32 bs) bs ∷ others (part_length 32 bs) bs
unfolding words_of part_length
first_word [] = refl
first_word (b ∷ bs) = word_go (eqb b 32) b bs (first_word bs)

pub next_word : (bs : List ℕ) (n k : ℕ) (more : Bool) → n ≡ part_length 32 bs → more ≡ ltb n (length bs) → (n < length bs → k ≡ n + 1) → words_of bs ≡ take (n - 0) bs ∷ cond more (words_of (take (length bs - k) (drop k bs))) []
next_word bs n k true e t step =
    let short : n < length bs = ltb-true n (length bs) (sym t) in
    let a : n - 0 ≡ n = omega arith in let b = take_rest bs k in let d : k ≡ suc n = omega (arith, step short) in
    first_word bs ∙ ap (λ m. take m bs ∷ others m bs) (sym e) ∙ (let f = sym t in rw (a, b, d, f) refl)
next_word bs n k false e t step =
    let a : n - 0 ≡ n = omega arith in
    first_word bs ∙ ap (λ m. take m bs ∷ others m bs) (sym e) ∙ (let f = sym t in rw (a, f) refl)

-- a line has a word, if only an empty one
pub some_word : (bs : List ℕ) → is_end (words_of bs) ≡ false
some_word bs = ap is_end (first_word bs)
