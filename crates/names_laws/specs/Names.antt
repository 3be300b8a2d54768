-- The names of a board's file. Assumes nothing.
use Rattle.std.specs.Prelude.{◌≡◌, ℕ, ◌*◌, true, List, [], length, Some, Ok, nat_lt, slice_index_or}
use Rattle.values.specs.Fold.{all}
use Rattle.text.specs.Words.{is_name, place}
use Rattle.text.specs.BoardFile.{BoardEntries, board_file}

-- each is a name, and stands for its own region
pub record GoodNames (names : List (List ℕ)) : Type 0 where
  pub named : all is_name names ≡ true
  pub found : (r : ℕ) → nat_lt r (length names) ≡ true → place names (slice_index_or names r []) ≡ Some r

-- regions in rows of three words, edges in rows of two
pub record Rowed (b : BoardEntries) : Type 0 where
  pub regions : length b.regions ≡ length b.names * 3
  pub marches : ℕ
  pub march : length b.march ≡ marches * 2
  pub sails : ℕ
  pub sail : length b.sail ≡ sails * 2

-- so it is of every board's file that is read whole
abbrev pub BoardNamesGood : Type 0
BoardNamesGood = (bytes : List ℕ) (b : BoardEntries) → board_file bytes ≡ Ok b → GoodNames b.names × Rowed b
