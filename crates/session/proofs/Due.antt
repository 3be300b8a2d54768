-- The blocks of orders taken one by one: what the next block adds, and the end.
use Rattle.std.proofs.Common.{◌≡◌, ℕ, suc, ◌+◌, ◌<◌, ◌≤◌, true, false, cond, eqb, List, [], ◌∷◌, ◌++◌, length, get_or, drop, vec_items, sym, ap, ◌∙◌, append_assoc, append-nil}
use Rattle.std.proofs.lemmas.List.{drop_more, drop_all}
use Rattle.text.specs.declared.orders_file.Block.{Block}
use Rattle.text.specs.OrdersFile.{Texts, texts_of}
use Rattle.session.specs.Session.{distance, next_number, block_phase, turns_due, phases_until}
use Rattle.session.specs.Tables.{blocks_of}

module _ (first k : ℕ) (blocks : List Block) (i : ℕ) where
  pub phases_more : (d : Block) → i < length blocks → phases_until first k (blocks_of (drop i blocks)) ≡ distance k (block_phase first (texts_of (get_or blocks i d))) + 1 + phases_until first (next_number (block_phase first (texts_of (get_or blocks i d)))) (blocks_of (drop (i + 1) blocks))
  unfolding phases_until
  phases_more d within = ap (λ l. phases_until first k (blocks_of l)) (drop_more blocks i d within)

  pub phases-end : length blocks ≤ i → phases_until first k (blocks_of (drop i blocks)) ≡ 0
  unfolding phases_until
  phases-end past = ap (λ l. phases_until first k (blocks_of l)) (drop_all i blocks past)

  pub turn_taken : (n : ℕ) (d : Block) → i < length blocks → eqb k (block_phase first (texts_of (get_or blocks i d))) ≡ true → turns_due first (suc n) k (blocks_of (drop i blocks)) ≡ vec_items (get_or blocks i d).words ∷ turns_due first n (next_number k) (blocks_of (drop (i + 1) blocks))
  unfolding turns_due
  turn_taken n d within due =
      ap (λ l. turns_due first (suc n) k (blocks_of l)) (drop_more blocks i d within) ∙
      ap (λ t. cond t (vec_items (get_or blocks i d).words ∷ turns_due first n (next_number k) (blocks_of (drop (i + 1) blocks))) ([] ∷ turns_due first n (next_number k) (texts_of (get_or blocks i d) ∷ blocks_of (drop (i + 1) blocks)))) due

  pub turn_waits : (n : ℕ) (d : Block) → i < length blocks → eqb k (block_phase first (texts_of (get_or blocks i d))) ≡ false → turns_due first (suc n) k (blocks_of (drop i blocks)) ≡ [] ∷ turns_due first n (next_number k) (blocks_of (drop i blocks))
  unfolding turns_due
  turn_waits n d within due =
      ap (λ l. turns_due first (suc n) k (blocks_of l)) (drop_more blocks i d within) ∙
      ap (λ t. cond t (vec_items (get_or blocks i d).words ∷ turns_due first n (next_number k) (blocks_of (drop (i + 1) blocks))) ([] ∷ turns_due first n (next_number k) (texts_of (get_or blocks i d) ∷ blocks_of (drop (i + 1) blocks)))) due ∙
      sym (ap (λ l. [] ∷ turns_due first n (next_number k) (blocks_of l)) (drop_more blocks i d within))

  pub turn_none : (n : ℕ) → length blocks ≤ i → turns_due first (suc n) k (blocks_of (drop i blocks)) ≡ [] ∷ turns_due first n (next_number k) (blocks_of (drop i blocks))
  unfolding turns_due
  turn_none n past = ap (λ l. turns_due first (suc n) k (blocks_of l)) (drop_all i blocks past) ∙ sym (ap (λ l. [] ∷ turns_due first n (next_number k) (blocks_of l)) (drop_all i blocks past))

pub turns_end : (first k n : ℕ) (left : List Texts) (was all : List (List ℕ)) → n ≡ 0 → was ++ turns_due first n k left ≡ all → was ≡ all
unfolding turns_due
turns_end first k n left was all none so_far = sym (append-nil was) ∙ sym (ap (λ i. was ++ turns_due first i k left) none) ∙ so_far

-- one turn more, behind those that were noted; the block that was looked at is the one in its place
module _ (first k : ℕ) (blocks : List Block) (i n : ℕ) (was now all : List (List ℕ)) (so_far : was ++ turns_due first (suc n) k (blocks_of (drop i blocks)) ≡ all) where
  on : (t : List ℕ) (rest : List (List ℕ)) → turns_due first (suc n) k (blocks_of (drop i blocks)) ≡ t ∷ rest → now ≡ was ++ t ∷ [] → now ++ rest ≡ all
  on t rest next here = ap (λ l. l ++ rest) here ∙ append_assoc was (t ∷ []) rest ∙ sym (ap (λ l. was ++ l) next) ∙ so_far

  pub on_taken : (b : Block) → b ≡ get_or blocks i b → i < length blocks → eqb k (block_phase first (texts_of b)) ≡ true → now ≡ was ++ vec_items b.words ∷ [] → now ++ turns_due first n (next_number k) (blocks_of (drop (i + 1) blocks)) ≡ all
  on_taken b is within due here =
      on (vec_items b.words) (turns_due first n (next_number k) (blocks_of (drop (i + 1) blocks)))
      (turn_taken first k blocks i n b within (sym (ap (λ x. eqb k (block_phase first (texts_of x))) is) ∙ due) ∙ sym (ap (λ x. vec_items x.words ∷ turns_due first n (next_number k) (blocks_of (drop (i + 1) blocks))) is))
      here

  pub on_waiting : (b : Block) → b ≡ get_or blocks i b → i < length blocks → eqb k (block_phase first (texts_of b)) ≡ false → now ≡ was ++ [] ∷ [] → now ++ turns_due first n (next_number k) (blocks_of (drop i blocks)) ≡ all
  on_waiting b is within due here =
      on [] (turns_due first n (next_number k) (blocks_of (drop i blocks))) (turn_waits first k blocks i n b within (sym (ap (λ x. eqb k (block_phase first (texts_of x))) is) ∙ due)) here

  pub on_empty : length blocks ≤ i → now ≡ was ++ [] ∷ [] → now ++ turns_due first n (next_number k) (blocks_of (drop i blocks)) ≡ all
  on_empty past here = on [] (turns_due first n (next_number k) (blocks_of (drop i blocks))) (turn_none first k blocks i n past) here
