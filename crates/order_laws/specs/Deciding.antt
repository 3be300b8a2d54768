-- Orders decided in any order. Assumes nothing.
use Rattle.std.specs.Prelude.{◌≡◌, ℕ, true, List, map, Option, nat_eq}
use Rattle.values.specs.Fold.{find, count_up, distinct}
use Rattle.values.specs.Shuffle.{Shuffled}
use Rattle.board.specs.Board.{Board}
use Rattle.assignment.specs.declared.resolution.Resolution.{Resolution}
use Rattle.deciding.specs.declared.report.Report.{Report}
use Rattle.deciding.specs.Outcome.{Ordered, outcome, reports}
use Rattle.order_laws.specs.Edges.{SameBoard}

-- for each of n regions, what is there
abbrev pub by_region : {A : Type 0} → (A → ℕ) → ℕ → List A → List (Option A)
by_region place n xs = map (λ r. find (λ x. nat_eq r (place x)) xs) (count_up 0 n)

-- where the unit of an order, of a decided order and of a report stands
abbrev pub order_region : Ordered → ℕ
order_region o = o.unit.region

abbrev pub resolution_region : Resolution → ℕ
resolution_region x = x.unit.region

abbrev pub report_region : Report → ℕ
report_region x = x.unit.region

-- the same for each unit: the lists in another order, and equal in the order of regions
pub record SameReports (xs ys : List Report) : Type 0 where
  pub shuffled : Shuffled Report xs ys
  pub of_unit : (r : ℕ) → find (λ x. nat_eq r (report_region x)) xs ≡ find (λ x. nat_eq r (report_region x)) ys
  pub region_by_region : (n : ℕ) → by_region report_region n xs ≡ by_region report_region n ys

-- orders of units in distinct regions: the outcome and what is told of it
abbrev pub AnyOrderOfOrders : Type 0
AnyOrderOfOrders =
    (m n : Board) (os ps : List Ordered) → SameBoard m n → distinct (map order_region os) ≡ true → Shuffled Ordered os ps →
    Shuffled Resolution (outcome m os) (outcome n ps) × SameReports (reports m os) (reports n ps)
