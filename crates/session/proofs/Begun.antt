-- What the files of a beginning come to, where each is read, and a fault at the last of them.
use Rattle.std.proofs.Common.{◌≡◌, ℕ, List, Ok, Err, Result, ap, ◌∙◌}
use Rattle.calls.specs.Begin.{begin_verdict}
use Rattle.text.specs.declared.refusal.Refusal.{Refusal}
use Rattle.text.specs.declared.refusal.Fault.{Fault}
use Rattle.text.specs.declared.refusal.Fault.TheVariants.{At, NoMemory}
use Rattle.text.specs.Refusal.{Answers}
use Rattle.text.specs.BoardFile.{BoardEntries, board_file}
use Rattle.text.specs.GameFile.{GameEntries, game_file}
use Rattle.text.specs.Files.{begin_words}
use Rattle.show.specs.Words.{Names}
use Rattle.session.specs.Session.{Opening, and_then, judged, opened}
use Rattle.session.specs.Tables.{opening_at, opening_of}

pub opened_is : (board game : List ℕ) (b : BoardEntries) (g : GameEntries) (ws : List ℕ) → board_file board ≡ Ok b → game_file b.names game ≡ Ok g → begin_words b g ≡ Ok ws → opened board game ≡ judged b.names ws (begin_verdict ws)
opened_is board game b g ws first second third =
    ap (λ r. and_then r (λ b. and_then (game_file b.names game) (λ g. and_then (begin_words b g) (λ ws. judged b.names ws (begin_verdict ws))))) first ∙
    ap (λ r. and_then r (λ g. and_then (begin_words b g) (λ ws. judged b.names ws (begin_verdict ws)))) second ∙
    ap (λ r. and_then r (λ ws. judged b.names ws (begin_verdict ws))) third

pub same_fault : (names : Names) (f : Fault) (r s : Result Opening Refusal) → r ≡ s → Answers (opening_at names) s (Err f) → Answers opening_of r (Err f)
same_fault names (At e) r s same told = same ∙ told
same_fault names NoMemory r s same told = tt
