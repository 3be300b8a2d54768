-- What is so of all that a form or a line may give. Assumes nothing.
use Rattle.std.proofs.Common.{◌≡◌, Bool, true, false, cond, Some, None, Option, refl}
use Rattle.std.specs.Option.{option_map}
use Rattle.text.specs.Words.{onward}

-- nothing, or something of which it is so
abbrev pub Gives : {A : Type 0} → (A → Type 0) → Option A → Type 0
Gives so None = Unit {0}
Gives so (Some a) = so a

pub gives_cond : {A : Type 0} (so : A → Type 0) (b : Bool) (x y : Option A) → Gives so x → Gives so y → Gives so (cond b x y)
gives_cond so true x y p q = p
gives_cond so false x y p q = q

pub gives_onward : {A X : Type 0} (so : A → Type 0) (o : Option X) (go : X → Option A) → ((x : X) → o ≡ Some x → Gives so (go x)) → Gives so (onward o go)
gives_onward so None go h = tt
gives_onward so (Some x) go h = h x refl

pub gives_map : {A X : Type 0} (so : A → Type 0) (f : X → A) (o : Option X) → Gives (λ x. so (f x)) o → Gives so (option_map f o)
gives_map so f None h = tt
gives_map so f (Some x) h = h
