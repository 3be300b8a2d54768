-- What is answered to orders, and what is promised of it in the words of the plain rules. Assumes nothing.
use Rattle.std.specs.Prelude.{◌≡◌, true, false, cond, List, [], ◌∷◌, map, nat_eq}
use mathlib.Core.List.{Memᴰ}
use Rattle.values.specs.Fold.{select, distinct}
use Rattle.values.specs.declared.tri.Tri.TheVariants.{Open}
use Rattle.values.specs.Tri.{is_yes, is_open}
use Rattle.board.specs.Board.{Board}
use Rattle.board.specs.Order.{is_convoyed}
use Rattle.assignment.specs.declared.resolution.Resolution.{Resolution}
use Rattle.deciding.specs.Rounds.{decided}
use Rattle.deciding.specs.Outcome.{Ordered, fresh, strand, paradox, settled, outcome}
use Rattle.deciding_laws.specs.Assignments.{Apart, played, Agrees}
use Rattle.deciding_laws.specs.Plain.{Answer, Path, Ruled, enters, dislodged}
use Rattle.deciding_laws.specs.PlainAgrees.{resolution}

-- a decided order as yes or no
abbrev pub answer : Resolution → Answer
answer x = record { unit = x.unit; order = x.order; success = is_yes x.value; stranded = x.stranded }

abbrev pub answers : Board → List Ordered → List Answer
answers m os = map answer (outcome m os)

-- with nothing decided
abbrev pub blank : Answer → Resolution
blank x = record { unit = x.unit; order = x.order; value = Open; stranded = x.stranded }

abbrev pub commanded : Answer → Ordered
commanded x = record { unit = x.unit; order = x.order }

-- what the last rounds begin with: nothing decided, and after a paradox with the armies stranded whose path was open
abbrev pub start : Board → List Ordered → List Resolution
start m os = cond (paradox m (decided m (fresh m os))) (strand m (decided m (fresh m os))) (fresh m os)

abbrev pub NothingOpen : List Resolution → Type 0
NothingOpen xs = (x : Resolution) → Memᴰ x xs → is_open x.value ≡ false

-- a stranded army was ordered over water, came to nothing and has no path
pub record Ashore (m : Board) (xs : List Answer) (x : Answer) : Type 0 where
  pub over_water : is_convoyed x.order ≡ true
  pub failed : x.success ≡ false
  pub pathless : Path m xs x → ⊥

-- the answers are to just the given units, with their orders as played; they keep the rules; and who is stranded lost its path
pub record AnswersRuled (m : Board) (os : List Ordered) : Type 0 where
  pub units : map commanded (answers m os) ≡ map (played m) os
  pub ruled : Ruled m (answers m os)
  pub ashore : (x : Answer) → Memᴰ x (answers m os) → x.stranded ≡ true → Ashore m (answers m os) x

abbrev pub AnswersKeepRules : Type 0
AnswersKeepRules = (m : Board) (os : List Ordered) → Apart os → AnswersRuled m os

-- what the first rounds decide is so in every assignment that keeps the rules and strands nobody;
-- what the last rounds decide, in every one that keeps the rules with the same armies stranded
pub record Necessary (m : Board) (os : List Ordered) : Type 0 where
  pub first : (xs : List Answer) → map blank xs ≡ fresh m os → Ruled m xs → Agrees (decided m (fresh m os)) (map resolution xs)
  pub last : (xs : List Answer) → map blank xs ≡ start m os → Ruled m xs → Agrees (settled m os) (map resolution xs)

abbrev pub DecidedIsNecessary : Type 0
DecidedIsNecessary = (m : Board) (os : List Ordered) → Necessary m os

-- exactly one move into the region of x succeeds, and it is of a foreign power
pub record BeatenByOne (xs : List Answer) (x : Answer) : Type 0 where
  pub by : Answer
  pub alone : select (enters x.unit.region) xs ≡ by ∷ []
  pub foreign : nat_eq by.unit.power x.unit.power ≡ false

-- in every assignment of units apart that keeps the rules, whoever is dislodged is so by one move, of a foreign power
abbrev pub RuledDislodgesByOne : Type 0
RuledDislodgesByOne =
    (m : Board) (xs : List Answer) → distinct (map (λ x. x.unit.region) xs) ≡ true → Ruled m xs → (x : Answer) → Memᴰ x xs → dislodged xs x ≡ true → BeatenByOne xs x

-- where nothing is left open, the answers are the one assignment that keeps the rules
pub record Unique (m : Board) (os : List Ordered) : Type 0 where
  -- no ring and no paradox: of all that strand nobody
  pub plainly : NothingOpen (decided m (fresh m os)) → (map blank (answers m os) ≡ fresh m os) × ((xs : List Answer) → map blank xs ≡ fresh m os → Ruled m xs → xs ≡ answers m os)
  -- no ring: of all with the same armies stranded
  pub marked : NothingOpen (settled m os) → (map blank (answers m os) ≡ start m os) × ((xs : List Answer) → map blank xs ≡ start m os → Ruled m xs → xs ≡ answers m os)

abbrev pub OneAnswer : Type 0
OneAnswer = (m : Board) (os : List Ordered) → Unique m os
