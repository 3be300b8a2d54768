-- A call from a line: its key, and words behind it. Assumes nothing.
use Rattle.std.specs.Prelude.{ℕ, cond, List, drop, Some, None, vec_items, codes, Option, nat_eq}
use Rattle.std.specs.List.{starts_with}
use Rattle.lines.specs.declared.call.Key.{Key}
use Rattle.lines.specs.declared.call.Key.TheVariants.{Begin, Turn}
use Rattle.lines.specs.declared.call.Call.{Call}
use Rattle.lines.specs.Numbers.{words_in}

pub record Called : Type 0 where
  pub key : Key
  pub words : List ℕ

abbrev pub under : Key → Option (List ℕ) → Option Called
under k None = None
under k (Some ws) = Some (record { key = k; words = ws })

abbrev pub call_in : List ℕ → Option Called
call_in line =
    cond (starts_with nat_eq line (codes "begin")) (under Begin (words_in (drop 5 line))) (cond (starts_with nat_eq line (codes "turn")) (under Turn (words_in (drop 4 line))) None)

-- the call that the code holds
abbrev pub called_by : Option Call → Option Called
called_by None = None
called_by (Some c) = Some (record { key = c.key; words = vec_items c.words })
