-- The same list in another order. Assumes nothing.
use Rattle.std.specs.Prelude.{List, [], ◌∷◌}

-- by exchanges of neighbours, as many as it takes
pub data Shuffled (A : Type 0) : List A → List A → Type 0 where
  nothing : Shuffled A [] []
  same_first : (x : A) {xs ys : List A} → Shuffled A xs ys → Shuffled A (x ∷ xs) (x ∷ ys)
  swap : (x y : A) (xs : List A) → Shuffled A (x ∷ y ∷ xs) (y ∷ x ∷ xs)
  twice : {xs ys zs : List A} → Shuffled A xs ys → Shuffled A ys zs → Shuffled A xs zs
