-- A game, and what was told of the last phase of moves, as words in the order of regions. Assumes nothing.
use Rattle.std.specs.Prelude.{ℕ, ◌+◌, Bool, cond, List, [], ◌∷◌, ◌++◌, map, length, Some, None, Option}
use Rattle.values.specs.Fold.{each, count_up}
use Rattle.tables.specs.Stands.{first_at}
use Rattle.board.specs.declared.unit.Unit.{Unit}
use Rattle.board.specs.declared.order.Order.{Order}
use Rattle.board.specs.declared.order.Order.TheVariants.{Hold, Move, SupportHold, SupportMove, Convoy}
use Rattle.deciding.specs.declared.report.Report.{Report}
use Rattle.game.specs.declared.phase.Dislodged.{Dislodged}
use Rattle.game.specs.Game.{Game}
use Rattle.game.specs.Number.{phase_number}

abbrev pub flag : Bool → ℕ
flag b = cond b 1 0

-- 0 for none, else one more
abbrev pub one_more : Option ℕ → ℕ
one_more None = 0
one_more (Some n) = n + 1

abbrev pub unit_words : Unit → List ℕ
unit_words u = u.power ∷ u.region ∷ flag u.fleet ∷ []

abbrev pub out_words : Dislodged → List ℕ
out_words d = d.unit.power ∷ d.unit.region ∷ flag d.unit.fleet ∷ one_more d.from ∷ []

-- kind and two regions, 0 where unused
abbrev pub order_words : Order → List ℕ
order_words Hold = 0 ∷ 0 ∷ 0 ∷ []
order_words (Move to convoyed) = cond convoyed 2 1 ∷ to ∷ 0 ∷ []
order_words (SupportHold at) = 3 ∷ at ∷ 0 ∷ []
order_words (SupportMove from to) = 4 ∷ from ∷ to ∷ []
order_words (Convoy from to) = 5 ∷ from ∷ to ∷ []

abbrev pub report_words : Report → List ℕ
report_words x = x.unit.region ∷ (order_words x.order ++ flag x.success ∷ flag x.dislodged ∷ flag x.ring ∷ flag x.stranded ∷ [])

-- the words of whoever is there
abbrev pub words_if : {X : Type 0} → (X → List ℕ) → Option X → List ℕ
words_if words None = []
words_if words (Some x) = words x

-- what each of n regions gives, in their order
abbrev pub by_region : ℕ → (ℕ → List ℕ) → List ℕ
by_region n give = each give (count_up 0 n)

abbrev pub in_order : {X : Type 0} → (X → List ℕ) → (X → Unit) → ℕ → List X → List ℕ
in_order words piece n xs = by_region n (λ r. words_if words (first_at piece r xs))

-- a game on n regions
abbrev pub game_words : ℕ → Game → List ℕ
game_words n g =
    length g.units ∷ (in_order unit_words (λ u. u) n g.units ++
    (map one_more g.owners ++
    phase_number g.phase ∷ length g.dislodged ∷ (in_order out_words (λ d. d.unit) n g.dislodged ++
    length g.barred ∷ g.barred)))

abbrev pub last_words : ℕ → List Report → List ℕ
last_words n xs = in_order report_words (λ x. x.unit) n xs
