-- Strengths known within bounds: sum, either of two, and which is greater. Assumes nothing.
use Rattle.std.specs.Prelude.{ℕ, ◌+◌, cond, nat_le, nat_lt}
use Rattle.values.specs.declared.tri.Tri.{Tri}
use Rattle.values.specs.declared.tri.Tri.TheVariants.{No, Open, Yes}
use Rattle.values.specs.declared.span.Span.{Span}

abbrev pub exactly : ℕ → Span
exactly n = record { least = n; greatest = n }

abbrev pub sum : Span → Span → Span
sum a b = record { least = a.least + b.least; greatest = a.greatest + b.greatest }

-- yes if the least of a is above the greatest of b, no if the greatest of a is at most the least of b, else open
abbrev pub greater : Span → Span → Tri
greater a b = cond (nat_lt b.greatest a.least) Yes (cond (nat_le a.greatest b.least) No Open)

abbrev pub lesser_of : ℕ → ℕ → ℕ
lesser_of a b = cond (nat_le a b) a b

abbrev pub greater_of : ℕ → ℕ → ℕ
greater_of a b = cond (nat_le a b) b a

-- a if t, else b; where t is open, the lesser of the two leasts and the greater of the two greatests
abbrev pub either : Tri → Span → Span → Span
either Yes a b = a
either No a b = b
either Open a b = record { least = lesser_of a.least b.least; greatest = greater_of a.greatest b.greatest }

-- a support counts 1 if it stands, 0 if not, and while it is open 0 or 1
abbrev pub counted : Tri → Span
counted No = exactly 0
counted Open = record { least = 0; greatest = 1 }
counted Yes = exactly 1
