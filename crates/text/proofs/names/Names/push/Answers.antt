use Rattle.std.proofs.Common.{◌≡◌, ℕ, List, [], ◌∷◌, ◌++◌, cond, map, length, is_some, Some, sym, ap, ◌∙◌, rules}
use Rattle.std.specs.HashMap.{get}
use Rattle.std.specs.Str.{bytes_eq}
use Rattle.std.proofs.lemmas.List.{map_push, length-map}
use Rattle.text.specs.Words.{place}
use Rattle.text.proofs.Places.{new_placed, old_placed}
use Rattle.text.proofs.names.Names.push.Goals as goal
use Rattle.text.proofs.names.Names.push.Goals.{After-push_reserved, then-not-contains_key+in_ok-insert, else-not-contains_key}

abbrev names : After-push_reserved → List (List ℕ)
names c = map (λ part. part.now) c.args.self.now.parts.items

pub invariant_of-self-2 : goal.invariant_of-self-2
invariant_of-self-2 c =
    let name = c.args.name in
    let one_more : map (λ part. part.now) c.push_reserved.new.self.items ≡ names c ++ name.now ∷ [] = search (rules, map_push) in
    let was = c.args.self.now.placed in
    let here : c.len-place.result ≡ length (names c) = search (rules, length-map) in
    let known : c.contains_key.result ≡ is_some (place (names c) name.now) = c.contains_key.ensures ∙ ap is_some (was name) in
    record {
      placed = λ word. elim c.if-not-contains_key.branch [
        | then-not-contains_key+in_ok-insert w ↦
            ap (λ s. get (λ x y. bytes_eq x.now y.now) s.1.1.0 word) w.self-is ∙ w.in_ok-insert.ensures.updates.0 word ∙
            (λ i. cond (bytes_eq name.now word.now) (Some (here i)) (was word i)) ∙ new_placed (names c) name.now word.now (sym known ∙ w.if-not-contains_key.true) ∙ sym (ap (λ ns. place ns word.now) one_more)
        | else-not-contains_key w ↦
            ap (λ s. get (λ x y. bytes_eq x.now y.now) s.1.1.0 word) w.self-is ∙ was word ∙ old_placed (names c) name.now word.now (sym known ∙ w.if-not-contains_key.false) ∙ sym (ap (λ ns. place ns word.now) one_more)
      ];
    }

pub returns : goal.returns
returns c = search (rules, map_push)
