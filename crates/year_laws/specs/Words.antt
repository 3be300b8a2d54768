-- What a power wrote for a region, in the players' words. Assumes nothing.
use Rattle.std.specs.Prelude.{◌≡◌, ℕ, List}
use mathlib.Core.List.{Memᴰ}
use Rattle.values.specs.Fold.{number}
use Rattle.game.specs.declared.text.Text.{Text}
use Rattle.game.specs.declared.text.Written.{Written}
use Rattle.game.specs.Texts.{addressed}

-- among all that was written, power p wrote just one text for region r, and it is t
pub record OnlyText (ws : List Written) (p r : ℕ) (t : Text) : Type 0 where
  pub written : Memᴰ {A = Written} (record { power = p; region = r; text = t }) ws
  pub alone : number (addressed p r) ws ≡ 1
