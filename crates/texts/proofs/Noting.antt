-- The slots hold, for each power and region, what was written: shown by noting the texts from the back. Assumes nothing.
use Rattle.std.proofs.Common.{◌≡◌, ℕ, ◌<◌, ◌≤◌, true, false, cond, ◌&&◌, eqb, List, [], ◌∷◌, length, get_or, set, replicate, None, sym, refl, ap, ◌∙◌, ⊎_elim, arith}
use Rattle.std.proofs.lemmas.List.{get_or-set_same, get_or-set_other, get_or-replicate, get_or_default}
use Rattle.std.proofs.lemmas.Bool.{cases_Bool, eqb-true, and_parts, ne_eqb}
use Rattle.values.specs.Fold.{gather, only}
use Rattle.game.specs.declared.text.Text.{Text}
use Rattle.game.specs.declared.text.Written.{Written}
use Rattle.game.specs.Texts.{addressed, written_for, text_for}
use Rattle.texts.specs.declared.texts.Slot.{Slot}
use Rattle.texts.specs.declared.texts.Slot.TheVariants.{Nothing, Once, Often}
use Rattle.texts.specs.Slots.{note_in, noted, text_in, slot_of, Kept}

pub noted-only : (ts : List Text) → text_in (noted ts) ≡ only ts
unfolding noted only
noted-only [] = refl
noted-only (t ∷ []) = refl
noted-only (t ∷ u ∷ rest) = twice (noted rest)
  where
    twice : (s : Slot) → text_in (note_in t (note_in u s)) ≡ None
    twice Nothing = refl
    twice (Once v) = refl
    twice Often = refl

pub kept_text : (ws : List Written) (slots : List Slot) (p r : ℕ) → Kept ws slots → p < 7 → r < 256 → text_in (get_or slots (slot_of p r) Nothing) ≡ text_for p r ws
kept_text ws slots p r kept hp hr = ap text_in (kept p r hp hr) ∙ noted-only (written_for p r ws)

pub kept_none : (slots : List Slot) → slots ≡ replicate 1792 Nothing → Kept [] slots
unfolding gather noted
kept_none slots none p r hp hr = ap (λ l. get_or l (slot_of p r) Nothing) none ∙ get_or-replicate 1792 (slot_of p r) Nothing Nothing (omega arith)

-- a text that the slot doesn't take
skip : (w : Written) (ws : List Written) (p r : ℕ) → addressed p r w ≡ false → noted (written_for p r ws) ≡ noted (written_for p r (w ∷ ws))
unfolding gather
skip w ws p r e = sym (ap (λ b. noted (cond b (w.text ∷ written_for p r ws) (written_for p r ws))) e)

pub kept_past : (w : Written) (ws : List Written) (slots : List Slot) → 7 ≤ w.power → Kept ws slots → Kept (w ∷ ws) slots
kept_past w ws slots far kept p r hp hr = kept p r hp hr ∙ skip w ws p r (ap (λ b. b && eqb r w.region) (ne_eqb p w.power (λ e. omega arith)))

-- old is what the slot held, new what it holds now
pub kept_more : (w : Written) (ws : List Written) (slots : List Slot) (old new : Slot) → length slots ≡ 1792 → w.power < 7 → w.region < 256 → old ≡ get_or slots (slot_of w.power w.region) old → new ≡ note_in w.text old → Kept ws slots →
    Kept (w ∷ ws) (set slots (slot_of w.power w.region) new)
unfolding gather noted
kept_more w ws slots old new long low near was is kept p r hp hr = ⊎_elim same other (cases_Bool (addressed p r w))
  where
    k : ℕ
    k = slot_of w.power w.region

    there : get_or slots k Nothing ≡ old
    there = get_or_default slots k Nothing old (omega arith) ∙ sym was

    same : addressed p r w ≡ true → get_or (set slots k new) (slot_of p r) Nothing ≡ noted (written_for p r (w ∷ ws))
    same e =
        let parts = and_parts (eqb p w.power) (eqb r w.region) e in
        let ep : p ≡ w.power = eqb-true p w.power parts.0 in
        let er : r ≡ w.region = eqb-true r w.region parts.1 in
        let ek : slot_of p r ≡ k = omega arith in
        ap (λ n. get_or (set slots k new) n Nothing) ek ∙ get_or-set_same slots k new Nothing (omega arith) ∙ is ∙
        ap (note_in w.text) (sym there ∙ ap (λ n. get_or slots n Nothing) (sym ek) ∙ kept p r hp hr) ∙ sym (ap (λ b. noted (cond b (w.text ∷ written_for p r ws) (written_for p r ws))) e)

    other : addressed p r w ≡ false → get_or (set slots k new) (slot_of p r) Nothing ≡ noted (written_for p r (w ∷ ws))
    other e = get_or-set_other slots k (slot_of p r) new Nothing (λ q. apart q) ∙ kept p r hp hr ∙ skip w ws p r e
      where
        apart : slot_of p r ≡ k → ⊥
        apart q =
            let ep : p ≡ w.power = omega arith in
            let er : r ≡ w.region = omega arith in
            let z : ◌≡◌ {A = ℕ} 0 1 = grind arith in
            omega arith
