-- The laws of yes, no and open, and what a span means: a number somewhere within it. Assumes nothing.
use Rattle.std.specs.Prelude.{◌≡◌, ℕ, ◌+◌, ◌<◌, ◌≤◌}
use Rattle.values.specs.declared.tri.Tri.{Tri}
use Rattle.values.specs.declared.tri.Tri.TheVariants.{No, Open, Yes}
use Rattle.values.specs.declared.span.Span.{Span}
use Rattle.values.specs.Tri.{not_tri, and_tri, or_tri}
use Rattle.values.specs.Span.{exactly, sum, greater, either}

pub record TriLaws : Type 0 where
  pub not_not : (a : Tri) → not_tri (not_tri a) ≡ a
  pub and_swap : (a b : Tri) → and_tri a b ≡ and_tri b a
  pub and_group : (a b c : Tri) → and_tri (and_tri a b) c ≡ and_tri a (and_tri b c)
  pub and_yes : (a : Tri) → and_tri Yes a ≡ a
  pub and_no : (a : Tri) → and_tri No a ≡ No
  pub or_swap : (a b : Tri) → or_tri a b ≡ or_tri b a
  pub or_group : (a b c : Tri) → or_tri (or_tri a b) c ≡ or_tri a (or_tri b c)
  pub or_no : (a : Tri) → or_tri No a ≡ a
  pub or_yes : (a : Tri) → or_tri Yes a ≡ Yes
  pub not_and : (a b : Tri) → not_tri (and_tri a b) ≡ or_tri (not_tri a) (not_tri b)
  pub and_over_or : (a b c : Tri) → and_tri a (or_tri b c) ≡ or_tri (and_tri a b) (and_tri a c)

-- n lies in the span
pub record Within (n : ℕ) (s : Span) : Type 0 where
  pub low : s.least ≤ n
  pub high : n ≤ s.greatest

pub record SpanLaws : Type 0 where
  pub exact : (n : ℕ) → Within n (exactly n)
  pub sums : (i j : ℕ) (a b : Span) → Within i a → Within j b → Within (i + j) (sum a b)
  -- either of two that may still be chosen holds what each of them holds
  pub first : (i : ℕ) (a b : Span) → Within i a → Within i (either Open a b)
  pub second : (i : ℕ) (a b : Span) → Within i b → Within i (either Open a b)
  -- yes and no are said only if they are so for all numbers within
  pub surely : (i j : ℕ) (a b : Span) → greater a b ≡ Yes → Within i a → Within j b → j < i
  pub surely_not : (i j : ℕ) (a b : Span) → greater a b ≡ No → Within i a → Within j b → i ≤ j
  -- open is said only if both can still be
  pub may_be : (a b : Span) → a.least ≤ a.greatest → b.least ≤ b.greatest → greater a b ≡ Open → (b.least < a.greatest) × (a.least ≤ b.greatest)
