-- Edges into sets. Assumes nothing.
use Rattle.std.proofs.Common.{◌≡◌, ℕ, zero, suc, ◌+◌, ◌-◌, ◌<◌, Bool, true, false, ◌&&◌, ◌||◌, eqb, List, [], ◌∷◌, length, get_or, set, replicate, sym, refl, ap, ◌∙◌, ⊎_elim, arith}
use Rattle.std.proofs.lemmas.List.{get_or_default, get_or-set_same, get_or-set_other}
use Rattle.std.proofs.lemmas.Bool.{cases_Bool, eqb-true, eqb-false}
use Rattle.geography.specs.declared.links.Edge.{Edge}
use Rattle.geography.specs.declared.region_set.RegionSet.{RegionSet}
use Rattle.geography.specs.RegionSet.{has, empty}
use Rattle.geography.proofs.Bitwise.{has_none}
use Rattle.geography.specs.Links.{linked, Tied, Ends, no_edge}
use Rattle.values.specs.Fold.{any}
use Rattle.values.proofs.Backwards.{Turn}

-- the ends of the edge that a turn takes
pub ends_at : {es : List Edge} {n : ℕ} {e : Edge} → Ends es → Turn es n e → (e.one < 128) × (e.two < 128)
unfolding Ends
ends_at {es} {n} {e} h t =
    let k : length es - (n + 1) < length es = omega (arith, t.left) in
    let is : get_or es (length es - (n + 1)) no_edge ≡ e = get_or_default es (length es - (n + 1)) no_edge e k ∙ sym t.here in
    rw is at (h (length es - (n + 1)) k)

blank-has : (n a b : ℕ) → has (get_or (replicate n empty) a empty) b ≡ false
blank-has zero a b = has_none b
blank-has (suc n) zero b = has_none b
blank-has (suc n) (suc a) b = blank-has n a b

pub tied_none : (n : ℕ) (rs : List RegionSet) → rs ≡ replicate n empty → Tied [] rs
unfolding any
tied_none n rs e a b = ap (λ l. has (get_or l a empty) b) e ∙ blank-has n a b

-- what is beside after one end was joined
pub join_has : (rs : List RegionSet) (a b : ℕ) (s : RegionSet) → a < length rs → ((q : ℕ) → has s q ≡ (eqb q b || has (get_or rs a empty) q)) →
    (p q : ℕ) → has (get_or (set rs a s) p empty) q ≡ ((eqb p a && eqb q b) || has (get_or rs p empty) q)
join_has rs a b s l h p q = ⊎_elim same other (cases_Bool (eqb p a))
  where
    same : eqb p a ≡ true → has (get_or (set rs a s) p empty) q ≡ ((eqb p a && eqb q b) || has (get_or rs p empty) q)
    same e = rw (eqb-true p a e, get_or-set_same rs a s empty l, h q) (ap (λ t. (t && eqb q b) || has (get_or rs a empty) q) (sym (ap (λ n. eqb n a) (sym (eqb-true p a e)) ∙ e)))

    other : eqb p a ≡ false → has (get_or (set rs a s) p empty) q ≡ ((eqb p a && eqb q b) || has (get_or rs p empty) q)
    other e = rw (get_or-set_other rs a p s empty (eqb-false p a e), e) refl

shuffle : (a b c : Bool) → (a || (b || c)) ≡ ((b || a) || c)
shuffle true true c = refl
shuffle true false c = refl
shuffle false true c = refl
shuffle false false c = refl

-- one more edge in front
pub tied_more : (es : List Edge) (e : Edge) (rs mid new : List RegionSet) → Tied es rs → ((p q : ℕ) → has (get_or mid p empty) q ≡ ((eqb p e.one && eqb q e.two) || has (get_or rs p empty) q)) →
    ((p q : ℕ) → has (get_or new p empty) q ≡ ((eqb p e.two && eqb q e.one) || has (get_or mid p empty) q)) → Tied (e ∷ es) new
unfolding any
tied_more es e rs mid new h f g a b =
    g a b ∙ ap (λ t. (eqb a e.two && eqb b e.one) || t) (f a b ∙ ap (λ t. (eqb a e.one && eqb b e.two) || t) (h a b)) ∙
    ap (λ t. t || ((eqb a e.one && eqb b e.two) || linked a b es)) (and_swap (eqb a e.two) (eqb b e.one)) ∙ shuffle (eqb b e.one && eqb a e.two) (eqb a e.one && eqb b e.two) (linked a b es)
  where
    and_swap : (x y : Bool) → (x && y) ≡ (y && x)
    and_swap true true = refl
    and_swap true false = refl
    and_swap false true = refl
    and_swap false false = refl
