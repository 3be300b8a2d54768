-- What is known of an option is known of what `ok_or` makes of it. Assumes nothing.
use Rattle.std.proofs.Common.{◌≡◌, ℕ, Bool, true, false, Ok, Err, Some, None, Option, Result, refl, ap, ◌∙◌, sym, arith}
use Rattle.std.specs.Result.{MatchResult, is_ok}
use Rattle.std.specs.Option.{MatchOption, ok_or}

some_is : {A E : Type 0} (o : Option A) (e : E) (x : A) → ok_or o e ≡ Ok x → o ≡ Some x
some_is None e x h = absurd (let z : ◌≡◌ {A = ℕ} 0 1 = cc in omega arith)
some_is (Some y) e x h = cc

none_is : {A E : Type 0} (o : Option A) (e f : E) → ok_or o e ≡ Err f → (o ≡ None) × (f ≡ e)
none_is None e f h = (refl, cc)
none_is (Some y) e f h = absurd (let z : ◌≡◌ {A = ℕ} 0 1 = cc in omega arith)

from_ok : {A E : Type 0} (x y : A) → ◌≡◌ {A = Result A E} (Ok x) (Ok y) → x ≡ y
from_ok x y h = cc

pub taken : {A E : Type 0} (o : Option A) (e : E) (r : Result A E) (x : A) → r ≡ ok_or o e → r ≡ Ok x → o ≡ Some x
taken o e r x made is = some_is o e x (sym made ∙ is)

pub missed : {A E : Type 0} (o : Option A) (e : E) (r : Result A E) (f : E) → r ≡ ok_or o e → r ≡ Err f → (o ≡ None) × (f ≡ e)
missed o e r f made is = none_is o e f (sym made ∙ is)

pub known : {A : Type 0} (N : Type 0) (P : A → Type 0) (o : Option A) (x : A) → o ≡ Some x → MatchOption o N P → P x
known N P None x is h = absurd (let z : ◌≡◌ {A = ℕ} 0 1 = cc in omega arith)
known N P (Some y) x is h = let e : y ≡ x = cc in rw (← e) h

-- and of a result with another error
pub kept : {A : Type 0} {D : Type 0} {E : Type 0} (P : A → Type 0) (N : E → Type 0) (Q : E → Type 0) (s : Result A E) (r : Result A D) (x : A) → MatchResult s (λ y. r ≡ Ok y) Q → is_ok r ≡ is_ok s → r ≡ Ok x → MatchResult s P N → P x
kept {D = D} P N Q (Ok y) r x same like is h = let e : y ≡ x = from_ok {E = D} y x (sym same ∙ is) in rw (← e) h
kept P N Q (Err e) r x same like is h = absurd (let z : ◌≡◌ {A = Bool} true false = sym (ap is_ok is) ∙ like in let n : ◌≡◌ {A = ℕ} 0 1 = cc in omega arith)
