-- The names that a table of names holds. Assumes nothing.
use Rattle.std.specs.Prelude.{ℕ, List, map, vec_items}
use Rattle.text.specs.declared.names.Names.{Names}

-- in the order of their lines
abbrev pub names_of : Names → List (List ℕ)
names_of names = map (λ part. part.now) (vec_items names.parts)
