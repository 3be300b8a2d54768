use Rattle.std.proofs.Common.{rules, ◌≡◌, length, ℕ, ◌-◌, ◌<◌, List, [], ◌∷◌, ◌++◌, map, get_or, drop, set, replicate, Some, vec_items, arith, sym, ap, ◌∙◌, subst, refl, inl, inr}
use Rattle.std.proofs.lemmas.List.{length_push, length-map, nil_from_length}
use Rattle.board.specs.Order.{aim}
use Rattle.assignment.proofs.Tabled.{Filled, all_empty, filled_none, filled_pass, filled_more, filled_all}
use Rattle.assignment.proofs.Numbered.{YieldsList-from_rev_numbered, numbered_turn, numbered_end}
use Rattle.assignment.proofs.lookup.Lookup.new.Goals as goal
use Rattle.assignment.proofs.lookup.Lookup.new.Goals.{then-acts+in_ok-file, else-acts}

pub loop-i-init : goal.loop-i-init
loop-i-init c =
    let blank = c.in_ok-place.ensures.items_if_clones_equal (λ y k. search rules) in
    let empty = all_empty _ (λ v. elim [
      | inl e ↦ ap vec_items e ∙ c.new.ensures.items
      | inr k ↦ nil_from_length (vec_items v) (omega (arith, v.ok.0, k.1, c.new.ensures.len))
    ]) (vec_items c.in_ok-aimed.aimed) c.in_ok-aimed.ensures.items in
    let long : length (vec_items c.in_ok-aimed.aimed) ≡ 256 = omega (arith, c.in_ok-aimed.aimed.ok.0, c.in_ok-aimed.ensures.len) in
    record {
      able = search rules;
      finite = search rules;
      places = search rules;
      targets = c.in_ok-aimed.ensures.len;
      filled = filled_none (vec_items c.in_ok-place.place) (map vec_items (vec_items c.in_ok-aimed.aimed)) c.args.xs.now blank (empty ∙ ap (λ n. replicate n []) long);
    }

pub loop-i-preserved : goal.loop-i-preserved
loop-i-preserved c =
    let all = c.args.xs.now in
    let t = numbered_turn all (YieldsList-from_rev_numbered _ all (cc) (cc) (λ u. refl)) c.loop-i.yielded _ c.loop-i.yielded_by _ _ c.in-Some.i c.in-Some.x c.in-Some.is c.next.ensures.steps in
    let one = length_push c.loop-i.yielded (c.in-Some.i, c.in-Some.x) in
    let place = vec_items c.loop-i.place in
    let aimed = map vec_items (vec_items c.loop-i.aimed) in
    let n = length c.loop-i.yielded in
    let x = c.in-Some.x.now in
    let table = set place x.unit.region (Some c.in-Some.i) in
    let wide : length place ≡ 256 = omega (arith, c.loop-i.place.ok.0, c.loop-i.invariant.places) in
    let to = λ (ys : List (List ℕ)). Filled (length all - length (c.loop-i.yielded ++ (c.in-Some.i, c.in-Some.x) ∷ [])) table ys (drop (length all - length (c.loop-i.yielded ++ (c.in-Some.i, c.in-Some.x) ∷ [])) all) in
    record {
      able = search rules;
      finite = search rules;
      places = search rules;
      targets = elim c.if-acts.branch [ then-acts+in_ok-file w ↦ search rules | else-acts w ↦ search rules ];
      filled = elim c.if-acts.branch [
        | then-acts+in_ok-file w ↦
            let new : map vec_items (vec_items c.if-acts.aimed) ≡ set aimed (aim x.order) (get_or aimed (aim x.order) [] ++ c.in-Some.i ∷ []) =
            ap (λ v. map vec_items (vec_items v)) w.aimed-is ∙ w.in_ok-file.ensures.filed ∙ ap (λ q. set aimed q (get_or aimed q [] ++ c.in-Some.i ∷ [])) w.aim.ensures in
            subst to (sym new) (filled_more place aimed all n _ c.in-Some.i x t one (omega arith) wide c.loop-i.invariant.filled (sym c.acts.ensures ∙ w.if-acts.true)
            (length-map (vec_items c.loop-i.aimed) vec_items ∙ sym c.loop-i.aimed.ok.0 ∙ c.loop-i.invariant.targets) (subst (λ q. q < 256) w.aim.ensures w.aim.type_inv))
        | else-acts w ↦
            subst to (ap (λ v. map vec_items (vec_items v)) (sym w.aimed-is)) (filled_pass place aimed all n _ c.in-Some.i x t one (omega arith) wide c.loop-i.invariant.filled (sym c.acts.ensures ∙ w.if-acts.false))
      ];
    }

pub returns : goal.returns
returns c =
    let xs = c.args.xs.now in
    let e = numbered_end xs (YieldsList-from_rev_numbered _ xs (cc) (cc) (λ u. refl)) c.loop-i.yielded _ c.loop-i.yielded_by _ _ c.in-None.is c.next.ensures.steps in
    let f = filled_all (vec_items c.loop-i.place) (map vec_items (vec_items c.loop-i.aimed)) xs (length c.loop-i.yielded) e c.loop-i.invariant.filled in
    record { few = c.requires.few; placed = f.0; aimed = f.1 }
