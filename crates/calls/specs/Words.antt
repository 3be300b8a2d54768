-- Lists of words read by places, and small values as words. Assumes nothing.
use Rattle.std.specs.Prelude.{ℕ, zero, suc, ◌-◌, Bool, true, cond, ◌&&◌, List, [], ◌∷◌, drop, Some, None, Option, ◌==◌, slice_index}

abbrev pub at : List ℕ → ℕ → ℕ
at ws i = slice_index ws i

-- n entries of so many words each
unfoldable pub entries : {A : Type 0} → ℕ → ℕ → (List ℕ → A) → List ℕ → List A
entries zero width read ws = []
entries (suc n) width read ws = read ws ∷ entries n width read (drop width ws)

-- whether each entry passes the test
unfoldable pub every_entry : ℕ → ℕ → (List ℕ → Bool) → List ℕ → Bool
every_entry zero width test ws = true
every_entry (suc n) width test ws = test ws && every_entry n width test (drop width ws)

abbrev pub is_one : ℕ → Bool
is_one w = w == 1

-- 0 for none, else one more than what is meant
abbrev pub optional : ℕ → Option ℕ
optional w = cond (w == 0) None (Some (w - 1))
