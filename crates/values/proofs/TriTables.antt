-- The laws of yes, no and open, each by its table.
use Rattle.std.proofs.Common.{arith}
use Rattle.values.specs.Laws.{TriLaws}

pub tri_laws : TriLaws
tri_laws =
    record {
      not_not = λ a. grind arith;
      and_swap = λ a b. grind arith;
      and_group = λ a b c. grind arith;
      and_yes = λ a. grind arith;
      and_no = λ a. grind arith;
      or_swap = λ a b. grind arith;
      or_group = λ a b c. grind arith;
      or_no = λ a. grind arith;
      or_yes = λ a. grind arith;
      not_and = λ a b. grind arith;
      and_over_or = λ a b c. grind arith;
    }
