-- What the operations on spans say of the numbers within them.
use Rattle.std.proofs.Common.{◌≡◌, ℕ, ◌<◌, ◌≤◌, arith}
use Rattle.values.specs.declared.tri.Tri.TheVariants.{No, Open, Yes}
use Rattle.values.specs.declared.span.Span.{Span}
use Rattle.values.specs.Span.{greater, lesser_of, greater_of}
use Rattle.values.specs.Laws.{SpanLaws}

yes_above : (a b : Span) → greater a b ≡ Yes → b.greatest < a.least
yes_above a b e = grind arith

no_below : (a b : Span) → greater a b ≡ No → a.greatest ≤ b.least
no_below a b e = grind arith

open_either : (a b : Span) → greater a b ≡ Open → (b.least < a.greatest) × (a.least ≤ b.greatest)
open_either a b e = grind arith

lesser_first : (a b : ℕ) → lesser_of a b ≤ a
lesser_first a b = grind arith

lesser_second : (a b : ℕ) → lesser_of a b ≤ b
lesser_second a b = grind arith

greater_first : (a b : ℕ) → a ≤ greater_of a b
greater_first a b = grind arith

greater_second : (a b : ℕ) → b ≤ greater_of a b
greater_second a b = grind arith

pub span_laws : SpanLaws
span_laws =
    record {
      exact = λ n. omega arith;
      sums = λ i j a b p q. omega arith;
      first = λ i a b p. omega (arith, lesser_first a.least b.least, greater_first a.greatest b.greatest);
      second = λ i a b p. omega (arith, lesser_second a.least b.least, greater_second a.greatest b.greatest);
      surely = λ i j a b e p q. omega (arith, yes_above a b e);
      surely_not = λ i j a b e p q. omega (arith, no_below a b e);
      may_be = λ a b p q e. open_either a b e;
    }
