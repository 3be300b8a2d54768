-- Numbers in decimal, one space apart. Assumes nothing.
use Rattle.std.specs.Prelude.{ℕ, ◌+◌, ◌-◌, ◌*◌, Bool, cond, ◌&&◌, List, [], ◌∷◌, Some, None, vec_items, Option, Vec, ◌==◌, nat_le}
use Rattle.lines.specs.declared.numbers.Step.{Step}
use Rattle.lines.specs.declared.numbers.Step.TheVariants.{Grows, Ends, Bad}

abbrev pub is_digit : ℕ → Bool
is_digit b = nat_le 48 b && nat_le b 57

-- the greatest word: a greater number counts as this one, which is above every limit too
abbrev pub top : ℕ
top = 4294967295

abbrev pub grow : ℕ → ℕ → ℕ
grow n digit = cond (nat_le (n * 10 + digit) top) (n * 10 + digit) top

abbrev pub before : ℕ → Option (List ℕ) → Option (List ℕ)
before n None = None
before n (Some ws) = Some (n ∷ ws)

-- one byte more, inside a number that is n so far, or where one has to begin
abbrev pub step_in : Option ℕ → ℕ → Step
step_in None b = cond (is_digit b) (Grows (b - 48)) Bad
step_in (Some n) b = cond (is_digit b) (Grows (grow n (b - 48))) (cond (b == 32) (Ends n) Bad)

-- with what the rest gives from there
abbrev pub onward : Step → (Option ℕ → Option (List ℕ)) → Option (List ℕ)
onward (Grows n) rest = rest (Some n)
onward (Ends n) rest = before n (rest None)
onward Bad rest = None

abbrev pub finish : Option ℕ → Option (List ℕ)
finish None = None
finish (Some n) = Some (n ∷ [])

unfoldable pub numbers_from : Option ℕ → List ℕ → Option (List ℕ)
numbers_from s [] = finish s
numbers_from s (b ∷ bs) = onward (step_in s b) (λ t. numbers_from t bs)

-- nothing, or a space and numbers
abbrev pub words_in : List ℕ → Option (List ℕ)
words_in [] = Some []
words_in (b ∷ bs) = cond (b == 32) (numbers_from None bs) None

-- the numbers of a list that was read
abbrev pub items : {Z : Type 0} → Option (Vec ℕ Z) → Option (List ℕ)
items None = None
items (Some v) = Some (vec_items v)
