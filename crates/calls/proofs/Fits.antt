-- Words that fit their counts, in two halves; and each part of them has room for its entries. Assumes nothing.
use Rattle.std.proofs.Common.{◌≡◌, ℕ, ◌+◌, ◌-◌, ◌*◌, ◌<◌, ◌≤◌, Bool, true, false, ◌&&◌, eqb, leb, List, length, get_or, take, drop, sym, refl, ap, ◌∙◌, arith, length-drop}
use Rattle.std.proofs.lemmas.List.{take_rest}
use Rattle.std.proofs.lemmas.Bool.{and_parts, and_from, and_left, and_right, leb-true, lt-leb, le-leb, eqb-true, eq-eqb, ne_eqb}
use Rattle.calls.specs.Begin.{region_count, march_count, sail_count, unit_count, out_count, barred_count, region_words, march_words, sail_words, unit_words, owner_words, phase_words, out_words, barred_words, words_fit}
use Rattle.calls.specs.Sections.{front_fits, back_fits}

regroup : (a b c d e f t : Bool) → (a && (b && (c && (d && (e && (f && t)))))) ≡ ((a && (b && (c && (d && (e && f))))) && t)
regroup true true true true true f t = refl
regroup true true true true false f t = refl
regroup true true true false e f t = refl
regroup true true false d e f t = refl
regroup true false c d e f t = refl
regroup false b c d e f t = refl

abbrev total : List ℕ → ℕ
total ws = 4 + 3 * region_count ws + 2 * march_count ws + 2 * sail_count ws + 3 * unit_count ws + region_count ws + 2

fits_split : (ws : List ℕ) → words_fit ws ≡ (front_fits ws && back_fits ws)
fits_split ws = regroup (leb 4 (length ws)) (leb (region_count ws) 128) (leb (march_count ws) 1024) (leb (sail_count ws) 1024) (leb (unit_count ws) 128) (leb (total ws) (length ws)) (back_fits ws)

pub front-misfit : (ws : List ℕ) → front_fits ws ≡ false → words_fit ws ≡ false
front-misfit ws h = fits_split ws ∙ and_left (front_fits ws) (back_fits ws) h

pub back_misfit : (ws : List ℕ) → back_fits ws ≡ false → words_fit ws ≡ false
back_misfit ws h = fits_split ws ∙ and_right (front_fits ws) (back_fits ws) h

pub both_fit : (ws : List ℕ) → front_fits ws ≡ true → back_fits ws ≡ true → words_fit ws ≡ true
both_fit ws h k = fits_split ws ∙ and_from (front_fits ws) (back_fits ws) h k

pub halves : (ws : List ℕ) → words_fit ws ≡ true → (front_fits ws ≡ true) × (back_fits ws ≡ true)
halves ws h = and_parts (front_fits ws) (back_fits ws) (sym (fits_split ws) ∙ h)

-- the limits, as numbers
pub record Limits (ws : List ℕ) : Type 0 where
  pub regions : region_count ws ≤ 128
  pub march : march_count ws ≤ 1024
  pub sail : sail_count ws ≤ 1024
  pub units : unit_count ws ≤ 128
  pub long : total ws ≤ length ws

pub limits : (ws : List ℕ) → front_fits ws ≡ true → Limits ws
limits ws h =
    let a = (and_parts (leb 4 (length ws)) _ h).1 in
    let b = and_parts (leb (region_count ws) 128) _ a in
    let c = and_parts (leb (march_count ws) 1024) _ b.1 in
    let d = and_parts (leb (sail_count ws) 1024) _ c.1 in
    let e = and_parts (leb (unit_count ws) 128) (leb (total ws) (length ws)) d.1 in
    record {
      regions = leb-true (region_count ws) 128 b.0;
      march = leb-true (march_count ws) 1024 c.0;
      sail = leb-true (sail_count ws) 1024 d.0;
      units = leb-true (unit_count ws) 128 e.0;
      long = leb-true (total ws) (length ws) e.1;
    }

-- the room that each part has
pub record Rooms (ws : List ℕ) : Type 0 where
  pub regions : region_count ws * 3 ≤ length (region_words ws)
  pub march : march_count ws * 2 ≤ length (march_words ws)
  pub sail : sail_count ws * 2 ≤ length (sail_words ws)
  pub units : unit_count ws * 3 ≤ length (unit_words ws)
  pub owners : region_count ws * 1 ≤ length (owner_words ws)
  pub rest : 2 ≤ length (phase_words ws)

pub rooms : (ws : List ℕ) → front_fits ws ≡ true → Rooms ws
rooms ws h =
    let all = (limits ws h).long in
    let regions = length-drop 4 ws in
    let march = length-drop (3 * region_count ws) (region_words ws) in
    let sail = length-drop (2 * march_count ws) (march_words ws) in
    let units = length-drop (2 * sail_count ws) (sail_words ws) in
    let owners = length-drop (3 * unit_count ws) (unit_words ws) in
    let rest = length-drop (region_count ws) (owner_words ws) in
    record { regions = omega arith; march = omega arith; sail = omega arith; units = omega arith; owners = omega arith; rest = omega arith }

pub out_room : (ws : List ℕ) → back_fits ws ≡ true → (out_count ws ≤ 128) × (out_count ws * 4 ≤ length (out_words ws))
out_room ws h =
    let a = and_parts (leb (out_count ws) 128) _ h in
    let b = leb-true (4 * out_count ws + 1) (length (out_words ws)) (and_parts (leb (4 * out_count ws + 1) (length (out_words ws))) _ a.1).0 in
    (leb-true (out_count ws) 128 a.0, omega arith)

-- the barred regions are all the words that are left
pub barred_all : (ws : List ℕ) → back_fits ws ≡ true → length (drop 1 (barred_words ws)) ≡ barred_count ws
barred_all ws h =
    let a = (and_parts (leb (out_count ws) 128) _ h).1 in
    let b = (and_parts (leb (4 * out_count ws + 1) (length (out_words ws))) _ a).1 in
    let c = eqb-true (length (barred_words ws)) (1 + barred_count ws) (and_parts (leb (barred_count ws) 128) (eqb (length (barred_words ws)) (1 + barred_count ws)) b).1 in
    let long = length-drop 1 (barred_words ws) in
    omega arith

-- ---- the half behind, as the code meets it
module _ (ws rest : List ℕ) (is : rest ≡ phase_words ws) where
  count_is : get_or rest 1 0 ≡ out_count ws
  count_is = ap (λ l. get_or l 1 0) is

  pub out_is : take (length rest - 2) (drop 2 rest) ≡ out_words ws
  out_is = take_rest rest 2 ∙ ap (drop 2) is

  pub out_many : 128 < get_or rest 1 0 → back_fits ws ≡ false
  out_many h = and_left (leb (out_count ws) 128) _ (lt-leb (out_count ws) 128 (omega (arith, count_is)))

  pub out_short : length (take (length rest - 2) (drop 2 rest)) < 4 * get_or rest 1 0 + 1 → back_fits ws ≡ false
  out_short h =
      let long = ap length out_is in
      let count = count_is in
      and_right (leb (out_count ws) 128) _ (and_left (leb (4 * out_count ws + 1) (length (out_words ws))) _ (lt-leb (4 * out_count ws + 1) (length (out_words ws)) (omega arith)))

  module _ (tail : List ℕ) (next : tail ≡ drop (4 * get_or rest 1 0) (take (length rest - 2) (drop 2 rest))) where
    pub tail_is : tail ≡ barred_words ws
    tail_is = next ∙ ap (drop (4 * get_or rest 1 0)) out_is ∙ ap (λ k. drop (4 * k) (out_words ws)) count_is

    barred_count_is : get_or tail 0 0 ≡ barred_count ws
    barred_count_is = ap (λ l. get_or l 0 0) tail_is

    pub barred_is : take (length tail - 1) (drop 1 tail) ≡ drop 1 (barred_words ws)
    barred_is = take_rest tail 1 ∙ ap (drop 1) tail_is

    pub barred_many : 128 < get_or tail 0 0 → back_fits ws ≡ false
    barred_many h =
        let count = barred_count_is in
        and_right (leb (out_count ws) 128) _
        (and_right (leb (4 * out_count ws + 1) (length (out_words ws))) _ (and_left (leb (barred_count ws) 128) _ (lt-leb (barred_count ws) 128 (omega arith))))

    pub barred_unlike : 1 ≤ length tail → (length (take (length tail - 1) (drop 1 tail)) ≡ get_or tail 0 0 → ⊥) → back_fits ws ≡ false
    barred_unlike some h =
        let count = barred_count_is in
        let long = ap length tail_is in
        let rest = ap length (take_rest tail 1) in
        let less = length-drop 1 tail in
        and_right (leb (out_count ws) 128) _
        (and_right (leb (4 * out_count ws + 1) (length (out_words ws))) _
        (and_right (leb (barred_count ws) 128) (eqb (length (barred_words ws)) (1 + barred_count ws)) (ne_eqb (length (barred_words ws)) (1 + barred_count ws) (λ e. h (omega arith)))))

    pub back_fit : get_or rest 1 0 ≤ 128 → 4 * get_or rest 1 0 + 1 ≤ length (take (length rest - 2) (drop 2 rest)) → get_or tail 0 0 ≤ 128 → 1 ≤ length tail → length (take (length tail - 1) (drop 1 tail)) ≡ get_or tail 0 0 → back_fits ws ≡ true
    back_fit few room small some same =
        let out = count_is in
        let words = ap length out_is in
        let count = barred_count_is in
        let long = ap length tail_is in
        let rest = ap length (take_rest tail 1) in
        let less = length-drop 1 tail in
        and_from (leb (out_count ws) 128) _ (le-leb (out_count ws) 128 (omega arith))
        (and_from (leb (4 * out_count ws + 1) (length (out_words ws))) _ (le-leb (4 * out_count ws + 1) (length (out_words ws)) (omega arith))
        (and_from (leb (barred_count ws) 128) (eqb (length (barred_words ws)) (1 + barred_count ws)) (le-leb (barred_count ws) 128 (omega arith)) (eq-eqb (length (barred_words ws)) (1 + barred_count ws) (omega arith))))
