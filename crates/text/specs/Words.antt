-- The words of a line: what one word may be, and forms that are read word by word. Assumes nothing.
use Rattle.std.specs.Prelude.{ℕ, ◌+◌, ◌-◌, Bool, true, false, cond, not, ◌&&◌, List, [], ◌∷◌, length, is_some, Some, None, codes, Option, nat_le}
use Rattle.std.specs.Str.{bytes_eq}
use Rattle.values.specs.Fold.{all}

-- ---- one word

-- one byte of a row, as its place in the row
unfoldable pub one_of : ℕ → ℕ → List ℕ → Option ℕ
one_of first last [] = None
one_of first last (b ∷ []) = cond (nat_le first b && nat_le b last) (Some (b - first)) None
one_of first last (b ∷ c ∷ bs) = None

-- the letters a to g stand for the powers 0 to 6
abbrev pub power : List ℕ → Option ℕ
power word = one_of 97 103 word

-- the digits 0 to 4 stand for the phases
abbrev pub phase : List ℕ → Option ℕ
phase word = one_of 48 52 word

unfoldable pub kind : List ℕ → Option ℕ
kind word = cond (bytes_eq word (codes "land")) (Some 0) (cond (bytes_eq word (codes "coast")) (Some 1) (cond (bytes_eq word (codes "sea")) (Some 2) None))

-- 1 for a fleet
unfoldable pub arm : List ℕ → Option ℕ
arm word = cond (bytes_eq word (codes "army")) (Some 0) (cond (bytes_eq word (codes "fleet")) (Some 1) None)

-- names have 1 to 16 small letters
abbrev pub is_letter : ℕ → Bool
is_letter b = nat_le 97 b && nat_le b 122

abbrev pub is_name : List ℕ → Bool
is_name word = nat_le 1 (length word) && (nat_le (length word) 16 && all is_letter word)

-- regions are counted in the order of their lines
unfoldable pub place_from : ℕ → List (List ℕ) → List ℕ → Option ℕ
place_from i [] word = None
place_from i (name ∷ names) word = cond (bytes_eq name word) (Some i) (place_from (i + 1) names word)

abbrev pub place : List (List ℕ) → List ℕ → Option ℕ
place names word = place_from 0 names word

-- a name that no region has yet
unfoldable pub new_name : List (List ℕ) → List ℕ → Option (List ℕ)
new_name names word = cond (is_name word && not (is_some (place names word))) (Some word) None

-- ---- word by word

-- the words of a line, or what is left of them, as a form reads them
abbrev pub Form : Type 0 → Type 0
Form X = List (List ℕ) → Option X

-- where no word is left the empty word stands: no rule reads it
abbrev pub front : List (List ℕ) → List ℕ
front [] = []
front (word ∷ words) = word

abbrev pub behind : List (List ℕ) → List (List ℕ)
behind [] = []
behind (word ∷ words) = words

abbrev pub onward : {X Y : Type 0} → Option X → (X → Option Y) → Option Y
onward None go = None
onward (Some x) go = go x

-- a word read by a rule, then the others
abbrev pub next : {X Y : Type 0} → (List ℕ → Option X) → (X → Form Y) → Form Y
next rule go words = onward (rule (front words)) (λ x. go x (behind words))

-- no word is left
abbrev pub is_end : List (List ℕ) → Bool
is_end [] = true
is_end (word ∷ words) = false

abbrev pub end : {X : Type 0} → X → Form X
end x words = cond (is_end words) (Some x) None

abbrev pub begins : List ℕ → List (List ℕ) → Bool
begins text words = bytes_eq (front words) text

-- a word that may stand here or not
abbrev pub optional : {X : Type 0} → List ℕ → Form X → Form X → Form X
optional text present absent words = cond (begins text words) (present (behind words)) (absent words)

-- a phase, and no word behind it
abbrev pub phase_alone : Form ℕ
phase_alone = next phase (λ n. end n)

abbrev pub nothing : {X : Type 0} → Form X
nothing words = None
