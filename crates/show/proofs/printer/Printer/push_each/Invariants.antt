use Rattle.std.proofs.Common.{◌≡◌, ℕ, ◌<◌, Ok, List, ◌++◌, vec_items}
use Rattle.show.specs.Game.{by_region}
use Rattle.show.proofs.printer.Printer.push_each.Given as goal

abbrev pub invariant-loop-r : goal.invariant-loop-r
invariant-loop-r g l =
    (give : ℕ → List ℕ) → ((r : ℕ) (before after : _) → r < l.self.regions → r < 256 → goal.F-post g l.push_one before r (Ok tt) after → vec_items after.now ≡ vec_items before.now ++ give r) → vec_items l.out ≡ vec_items l.initial.out ++ by_region l.r give
