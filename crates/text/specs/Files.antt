-- The words of a beginning, from what a board's and a game's file hold. Assumes nothing.
use Rattle.std.specs.Prelude.{ℕ, ◌/◌, List, [], ◌∷◌, ◌++◌, length, Some, None, Ok, Err, vec_items, Option, Result, Vec}
use Rattle.std.specs.declared.alloc.Global.{Global}
use Rattle.text.specs.declared.refusal.Refusal.{Refusal}
use Rattle.text.specs.Refusal.{misfit}
use Rattle.text.specs.BoardFile.{BoardEntries}
use Rattle.text.specs.GameFile.{GameEntries}

-- how many regions, edges for armies, edges for fleets, and units
abbrev pub count_words : BoardEntries → GameEntries → List ℕ
count_words b g = length b.names ∷ length b.march / 2 ∷ length b.sail / 2 ∷ length g.units / 3 ∷ []

abbrev pub board_words : BoardEntries → List ℕ
board_words b = b.regions ++ (b.march ++ b.sail)

abbrev pub game_words : ℕ → GameEntries → List ℕ
game_words n g = g.units ++ (g.owners ++ ((n ∷ length g.outs / 4 ∷ []) ++ (g.outs ++ ((length g.barred ∷ []) ++ g.barred))))

-- a game without a phase line has no words that fit
abbrev pub begin_at : BoardEntries → GameEntries → Option ℕ → Result (List ℕ) Refusal
begin_at b g None = Err misfit
begin_at b g (Some n) = Ok (count_words b g ++ (board_words b ++ game_words n g))

abbrev pub begin_words : BoardEntries → GameEntries → Result (List ℕ) Refusal
begin_words b g = begin_at b g g.phase

-- what the code holds
abbrev pub words_in : Vec ℕ Global → List ℕ
words_in words = vec_items words
