-- A file read line by line: what a line adds, where it is refused, and the end. Assumes nothing.
use Rattle.std.proofs.Common.{◌≡◌, ℕ, ◌+◌, List, [], ◌∷◌, Some, None, Ok, Err, Result, sym, ap, ◌∙◌}
use Rattle.text.specs.declared.refusal.Refusal.{Refusal}
use Rattle.text.specs.declared.refusal.Fault.{Fault}
use Rattle.text.specs.declared.refusal.Fault.TheVariants.{At, NoMemory}
use Rattle.text.specs.Refusal.{unreadable, Advances, Answers}
use Rattle.text.specs.Lines.{Step, read_lines, line_read, go_on, lines_of}

module _ {S : Type 0} (form : Step S) (n : ℕ) (known : S) (bytes : List ℕ) (all : Result S Refusal) (so_far : read_lines form n known (lines_of bytes) ≡ all) where
  pub read_end : lines_of bytes ≡ [] → all ≡ Ok known
  unfolding read_lines
  read_end none = sym so_far ∙ ap (read_lines form n known) none

  module _ (line rest : List ℕ) (cut : lines_of bytes ≡ line ∷ lines_of rest) where
    one_line : go_on n (line_read form known line) (λ more. read_lines form (n + 1) more (lines_of rest)) ≡ all
    unfolding read_lines
    one_line = sym (ap (read_lines form n known) cut) ∙ so_far

    pub read_refused : line_read form known line ≡ None → all ≡ Err (unreadable n)
    read_refused none = sym one_line ∙ ap (λ o. go_on n o (λ more. read_lines form (n + 1) more (lines_of rest))) none

    pub read_on : (more : S) → line_read form known line ≡ Some more → read_lines form (n + 1) more (lines_of rest) ≡ all
    read_on more some = sym (ap (λ o. go_on n o (λ more. read_lines form (n + 1) more (lines_of rest))) some) ∙ one_line

    -- what ends the reading at this line is its refusal, or want of memory
    pub read_fault : {T : Type 0} (value : T → S) (after : S) (number : ℕ) (fault : Fault) → number ≡ n → Advances {S = S} (line_read form known line) number after (Err fault) → Answers value all (Err fault)
    read_fault value after number (At e) here told = read_refused told.0 ∙ ap (λ m. Err (unreadable m)) (sym here) ∙ ap Err (sym told.1)
    read_fault value after number NoMemory here told = tt
