-- Boards drawn alike: edges may stand in any order, turned round and doubled. Assumes nothing.
use Rattle.std.specs.Prelude.{◌≡◌, ℕ, List, ◌∷◌}
use Rattle.values.specs.Shuffle.{Shuffled}
use Rattle.geography.specs.declared.links.Edge.{Edge}
use Rattle.geography.specs.Links.{linked}
use Rattle.board.specs.Board.{Board}

-- the same regions are joined
abbrev pub SameEdges : List Edge → List Edge → Type 0
SameEdges es fs = (a b : ℕ) → linked a b es ≡ linked a b fs

pub record SameBoard (m n : Board) : Type 0 where
  pub regions : m.regions ≡ n.regions
  pub march : SameEdges m.march n.march
  pub sail : SameEdges m.sail n.sail

abbrev pub turned : Edge → Edge
turned e = record { one = e.two; two = e.one }

-- the same edges, drawn another way
pub data Redrawn : List Edge → List Edge → Type 0 where
  another_order : {es fs : List Edge} → Shuffled Edge es fs → Redrawn es fs
  turned_round : (e : Edge) (es : List Edge) → Redrawn (e ∷ es) (turned e ∷ es)
  doubled : (e : Edge) (es : List Edge) → Redrawn (e ∷ es) (e ∷ e ∷ es)
  back : {es fs : List Edge} → Redrawn es fs → Redrawn fs es
  further : {es fs gs : List Edge} → Redrawn es fs → Redrawn fs gs → Redrawn es gs

-- however edges are drawn, they join the same regions
abbrev pub AnyDrawing : Type 0
AnyDrawing = (es fs : List Edge) → Redrawn es fs → SameEdges es fs
