-- What a power wrote for a region, kept by power and region. Assumes nothing.
use Rattle.std.specs.Prelude.{◌≡◌, ℕ, ◌+◌, ◌*◌, ◌<◌, List, [], ◌∷◌, Some, None, Option, slice_index_or}
use Rattle.game.specs.declared.text.Text.{Text}
use Rattle.game.specs.declared.text.Written.{Written}
use Rattle.game.specs.Texts.{written_for}
use Rattle.texts.specs.declared.texts.Slot.{Slot}
use Rattle.texts.specs.declared.texts.Slot.TheVariants.{Nothing, Once, Often}

-- one text more
abbrev pub note_in : Text → Slot → Slot
note_in t Nothing = Once t
note_in t (Once u) = Often
note_in t Often = Often

unfoldable pub noted : List Text → Slot
noted [] = Nothing
noted (t ∷ ts) = note_in t (noted ts)

-- the text that counts
abbrev pub text_in : Slot → Option Text
text_in Nothing = None
text_in (Once t) = Some t
text_in Often = None

-- 256 slots for each power
abbrev pub slot_of : ℕ → ℕ → ℕ
slot_of p r = p * 256 + r

abbrev pub Kept : List Written → List Slot → Type 0
Kept ws slots = (p r : ℕ) → p < 7 → r < 256 → slice_index_or slots (slot_of p r) Nothing ≡ noted (written_for p r ws)
