use Rattle.std.proofs.Common.{◌≡◌, ◌+◌, ◌-◌, ◌<◌, cond, ltb, [], ◌∷◌, length, take, drop, sym, refl, ap, arith, rules}
use Rattle.text.specs.Lines.{words_of}
use Rattle.text.specs.Words.{front, behind}
use Rattle.text.specs.Reader.{left}
use Rattle.text.proofs.Steps.{next_word}
use Rattle.text.proofs.words.Words.take.Goals as goal
use Rattle.text.proofs.words.Words.take.Goals.{then-n-rest, else-n-rest}

pub returns : goal.returns
returns c =
    let bs = c.args.self.now.rest.now in
    let n = c.part_length-n.result in
    let k = c.if-n-rest.next in
    let steps : n < length bs → k ≡ n + 1 = elim c.if-n-rest.branch [ then-n-rest w ↦ λ h. w.next-is | else-n-rest w ↦ λ h. absurd (omega (arith, h, w.if-n-rest.false)) ] in
    let cut = next_word bs n k (ltb n (length bs)) c.part_length-n.ensures.value refl steps in
    let here : left c.args.self.now ≡ take (n - 0) bs ∷ cond (ltb n (length bs)) (words_of (take (length bs - k) (drop k bs))) [] = rw c.if-not-self.false cut in
    record { word = sym (ap front here); rest = sym (ap behind here); line = search rules }
