-- The one text for a region, found by the test, is the one that was written; and what an order in it says.
use Rattle.std.proofs.Common.{◌≡◌, ℕ, suc, Bool, true, false, cond, eqb, List, [], ◌∷◌, length, Some, None, Option, sym, refl, ap, ◌∙◌, subst, arith}
use mathlib.Core.List.Memᴰ
use mathlib.Core.List.{Memᴰ}
use Rattle.std.proofs.lemmas.Bool.{eqb-true, eq-eqb, and_parts, and_from}
use Rattle.values.specs.Fold.{gather, number, pick, only}
use Rattle.board.specs.declared.order.Order.TheVariants.{Move}
use Rattle.game.specs.declared.text.Text.{Text}
use Rattle.game.specs.declared.text.Text.TheVariants.{Command, Build, Disband}
use Rattle.game.specs.declared.text.Written.{Written}
use Rattle.game.specs.Texts.{addressed, written_for, text_for, order_in}
use Rattle.game.specs.Retreats.{is_just}
use Rattle.year_laws.specs.Words.{OnlyText}
use Rattle.year_laws.proofs.Members.{pick_at, pick_of}

pub just_some : (n : ℕ) (o : Option ℕ) → is_just n o ≡ true → o ≡ Some n
just_some n None e = let z : true ≡ false = sym e in cc
just_some n (Some k) e = ap Some (sym (eqb-true _ _ e))

pub some_just : (n : ℕ) (o : Option ℕ) → o ≡ Some n → is_just n o ≡ true
some_just n o e = ap (is_just n) e ∙ eq-eqb n n refl

pick-length : {A B : Type 0} (p : A → Bool) (f : A → B) (xs : List A) → length (pick p f xs) ≡ number p xs
unfolding gather
pick-length p f [] = refl
pick-length {A} {B} p f (x ∷ xs) = go (p x) (pick-length p f xs)
  where
    go : (b : Bool) → length (pick p f xs) ≡ number p xs → length (cond b (f x ∷ pick p f xs) (pick p f xs)) ≡ cond b (suc (number p xs)) (number p xs)
    go true e = ap suc e
    go false e = e

only_some : {A : Type 0} (xs : List A) (x : A) → only xs ≡ Some x → xs ≡ x ∷ []
unfolding only
only_some [] x e = let z : ◌≡◌ {A = ℕ} 0 1 = cc in absurd (omega arith)
only_some (y ∷ []) x e = let z : y ≡ x = cc in ap (λ w. w ∷ []) z
only_some (y ∷ z ∷ xs) x e = let z : ◌≡◌ {A = ℕ} 0 1 = cc in absurd (omega arith)

some_only : {A : Type 0} (xs : List A) (x : A) → Memᴰ x xs → length xs ≡ 1 → only xs ≡ Some x
unfolding only
some_only [] x i e = elim i [ ]
some_only (y ∷ []) x i e = ap Some (sym (Memᴰ.eq_of_singleton i))
some_only (y ∷ z ∷ xs) x i e = absurd (omega arith)

pub text_only : (ws : List Written) (p r : ℕ) (t : Text) → text_for p r ws ≡ Some t → OnlyText ws p r t
text_only ws p r t e =
    record { written = subst (λ w. Memᴰ w ws) (sym same) q.1; alone = sym (pick-length (addressed p r) (λ w. w.text) ws) ∙ ap length one }
  where
    one : written_for p r ws ≡ t ∷ []
    one = only_some (written_for p r ws) t e

    q : (w : Written) × Memᴰ w ws × (addressed p r w ≡ true) × (t ≡ w.text)
    q = pick_at (addressed p r) (λ w. w.text) ws t (subst (λ ts. Memᴰ t ts) (sym one) (Memᴰ.head refl))

    both : (eqb p q.0.power ≡ true) × (eqb r q.0.region ≡ true)
    both = and_parts (eqb p q.0.power) (eqb r q.0.region) q.2

    same : ◌≡◌ {A = Written} (record { power = p; region = r; text = t }) q.0
    same = λ i. record { power = eqb-true p q.0.power both.0 i; region = eqb-true r q.0.region both.1 i; text = q.3 i }

pub only_text : (ws : List Written) (p r : ℕ) (t : Text) → OnlyText ws p r t → text_for p r ws ≡ Some t
only_text ws p r t o =
    some_only (written_for p r ws) t (pick_of (addressed p r) (λ w. w.text) ws (record { power = p; region = r; text = t }) o.written (and_from (eqb p p) (eqb r r) (eq-eqb p p refl) (eq-eqb r r refl))) (pick-length (addressed p r) (λ w. w.text) ws ∙ o.alone)

-- an order that is a move was written as one
pub order_move : (x : Option Text) (t : ℕ) (c : Bool) → order_in x ≡ Move t c → x ≡ Some (Command (Move t c))
order_move None t c e = let z : ◌≡◌ {A = ℕ} 0 1 = cc in absurd (omega arith)
order_move (Some (Command o)) t c e = ap (λ d. Some (Command d)) e
order_move (Some (Build f)) t c e = let z : ◌≡◌ {A = ℕ} 0 1 = cc in absurd (omega arith)
order_move (Some Disband) t c e = let z : ◌≡◌ {A = ℕ} 0 1 = cc in absurd (omega arith)
