-- Of two games alike on boards drawn alike both are lawful, and both boards are good; told in the order of regions the games are equal.
use Rattle.std.proofs.Common.{◌≡◌, ℕ, Bool, true, false, not, ◌&&◌, ◌||◌, eqb, leb, List, [], ◌∷◌, length, sym, refl, ap, ◌∙◌, subst, inl, inr, arith}
use mathlib.Core.List.{Memᴰ}
use Rattle.std.proofs.lemmas.Bool.{true≢false, eqb-true, eq-eqb, and_parts, and_from, or_left, or_cases}
use Rattle.values.specs.Fold.{any, all, is_in, those, distinct}
use Rattle.values.specs.Shuffle.{Shuffled}
use Rattle.values.proofs.Shuffled.{shuffle_sym, map_shuffle, map_keys, keys_shuffle, length_shuffle, all_shuffle, any_member}
use Rattle.geography.specs.declared.links.Edge.{Edge}
use Rattle.geography.specs.Links.{joins, linked}
use Rattle.board.specs.Board.{Board, on_board, can_stand, stands, is_power, good_edge, good_board}
use Rattle.board.specs.declared.region.Region.{Region}
use Rattle.board.specs.declared.unit.Unit.{Unit}
use Rattle.game.specs.Game.{Game, is_retreats}
use Rattle.game.specs.Lawful.{units_in, from_board, good_owners, Lawful}
use Rattle.order_laws.specs.Edges.{SameEdges, SameBoard}
use Rattle.order_laws.specs.Turns.{unit_region, dislodged_region, AlikeGames, SameByRegion, AlikeStand}
use Rattle.order_laws.proofs.Deciding.{bare, by_region_same}

bool_eq : (a b : Bool) → (a ≡ true → b ≡ true) → (b ≡ true → a ≡ true) → a ≡ b
bool_eq a b i j = grind arith

-- ---- boards
-- edges that are good join only regions where such a unit can be, and no region to itself
joined_good : (m : Board) (f : Bool) (es : List Edge) (a b : ℕ) → all (good_edge m f) es ≡ true → linked a b es ≡ true → (can_stand m f a && (can_stand m f b && not (eqb a b))) ≡ true
unfolding all any
joined_good m f [] a b h e = absurd (true≢false (sym e))
joined_good m f (x ∷ es) a b h e =
    let g = and_parts (good_edge m f x) (all (good_edge m f) es) h in
    elim (or_cases (joins a b x) (linked a b es) e) [ inl j ↦ one_edge g.0 j | inr j ↦ joined_good m f es a b g.1 j ]
  where
    turn-round : (p q r : Bool) → r ≡ not (eqb x.two x.one) → (p && (q && not (eqb x.one x.two))) ≡ true → eqb x.two x.one ≡ eqb x.one x.two → (q && (p && r)) ≡ true
    turn-round p q r e h c = grind arith

    flip : (k l : ℕ) → eqb k l ≡ eqb l k
    flip k l = bool_eq (eqb k l) (eqb l k) (λ e. eq-eqb _ _ (sym (eqb-true k l e))) (λ e. eq-eqb _ _ (sym (eqb-true l k e)))

    one_edge : good_edge m f x ≡ true → joins a b x ≡ true → (can_stand m f a && (can_stand m f b && not (eqb a b))) ≡ true
    one_edge g j = elim (or_cases (eqb a x.one && eqb b x.two) (eqb b x.one && eqb a x.two) j) [
      | inl k ↦ (let q = and_parts (eqb a x.one) (eqb b x.two) k in
          (λ i. can_stand m f (eqb-true a x.one q.0 i) && (can_stand m f (eqb-true b x.two q.1 i) && not (eqb (eqb-true a x.one q.0 i) (eqb-true b x.two q.1 i)))) ∙ g)
      | inr k ↦ (let q = and_parts (eqb b x.one) (eqb a x.two) k in
          (λ i. can_stand m f (eqb-true a x.two q.1 i) && (can_stand m f (eqb-true b x.one q.0 i) && not (eqb (eqb-true a x.two q.1 i) (eqb-true b x.one q.0 i)))) ∙
          turn-round (can_stand m f x.one) (can_stand m f x.two) (not (eqb x.two x.one)) refl g (flip x.two x.one))
    ]

all_from : {A : Type 0} (test : A → Bool) (xs : List A) → ((x : A) → Memᴰ x xs → test x ≡ true) → all test xs ≡ true
unfolding all
all_from test [] h = refl
all_from test (x ∷ xs) h = and_from (test x) (all test xs) (h x (Memᴰ.head refl)) (all_from test xs (λ y j. h y (Memᴰ.tail j)))

own_ends : (e : Edge) → joins e.one e.two e ≡ true
own_ends e = or_left (eqb e.one e.one && eqb e.two e.two) (eqb e.two e.one && eqb e.one e.two) (and_from (eqb e.one e.one) (eqb e.two e.two) (eq-eqb _ _ refl) (eq-eqb _ _ refl))

good_edges : (rs : List Region) (f : Bool) (es fs : List Edge) → SameEdges es fs → all (good_edge (bare rs) f) es ≡ true → all (good_edge (bare rs) f) fs ≡ true
good_edges rs f es fs s h = all_from (good_edge (bare rs) f) fs (λ e i. joined_good (bare rs) f es e.one e.two h (s e.one e.two ∙ any_member (joins e.one e.two) fs e i (own_ends e)))

edges_same : (rs : List Region) (f : Bool) (es fs : List Edge) → SameEdges es fs → all (good_edge (bare rs) f) es ≡ all (good_edge (bare rs) f) fs
edges_same rs f es fs s = bool_eq _ _ (good_edges rs f es fs s) (good_edges rs f fs es (λ a b. sym (s a b)))

good_same : (m n : Board) → SameBoard m n → good_board m ≡ good_board n
good_same m n b =
    (λ i. leb (length m.regions) 128 && (all (λ r. is_power r.home) m.regions && (edges_same m.regions false m.march n.march b.march i && edges_same m.regions true m.sail n.sail b.sail i))) ∙
    (λ i. leb (length (b.regions i)) 128 && (all (λ r. is_power r.home) (b.regions i) && (all (good_edge (bare (b.regions i)) false) n.march && all (good_edge (bare (b.regions i)) true) n.sail)))

-- ---- lists with the same members
in_all : (test : ℕ → Bool) (xs : List ℕ) → all test xs ≡ true → (r : ℕ) → is_in r xs ≡ true → test r ≡ true
unfolding all any
in_all test [] h r e = absurd (true≢false (sym e))
in_all test (x ∷ xs) h r e =
    let g = and_parts (test x) (all test xs) h in
    elim (or_cases (eqb r x) (is_in r xs) e) [ inl j ↦ ap test (eqb-true r x j) ∙ g.0 | inr j ↦ in_all test xs g.1 r j ]

all_members : (test : ℕ → Bool) (xs ys : List ℕ) → ((r : ℕ) → is_in r xs ≡ is_in r ys) → all test xs ≡ true → all test ys ≡ true
all_members test xs ys s h = all_from test ys (λ r i. in_all test xs h r (s r ∙ any_member (eqb r) ys r i (eq-eqb _ _ refl)))

none_members : (xs ys : List ℕ) → ((r : ℕ) → is_in r xs ≡ is_in r ys) → length xs ≡ 0 → length ys ≡ 0
unfolding any
none_members [] [] s e = refl
none_members [] (y ∷ ys) s e = absurd (true≢false (sym (s y ∙ or_left (eqb y y) (is_in y ys) (eq-eqb _ _ refl))))
none_members (x ∷ xs) ys s e = absurd (omega arith)

-- ---- games
module _ (m n : Board) (b : SameBoard m n) (g h : Game) (a : AlikeGames g h) (l : Lawful m g) where
  out_units : Shuffled Unit (units_in g.dislodged) (units_in h.dislodged)
  out_units = map_shuffle (λ d. d.unit) a.dislodged

  stand_same : {us vs : List Unit} → Shuffled Unit us vs → all (stands m) us ≡ true → all (stands n) vs ≡ true
  stand_same {us} {vs} s e = (λ i. all (stands (bare (sym b.regions i))) vs) ∙ (sym (all_shuffle (stands m) s) ∙ e)

  calm_same : (is_retreats h.phase || (eqb (length h.dislodged) 0 && eqb (length h.barred) 0)) ≡ true
  calm_same = go (is_retreats g.phase) (is_retreats h.phase) (ap is_retreats a.phase) l.calm
    where
      go : (p q : Bool) → p ≡ q → (p || (eqb (length g.dislodged) 0 && eqb (length g.barred) 0)) ≡ true → (q || (eqb (length h.dislodged) 0 && eqb (length h.barred) 0)) ≡ true
      go p true e c = refl
      go true false e c = absurd (true≢false e)
      go false false e c =
          let k = and_parts (eqb (length g.dislodged) 0) (eqb (length g.barred) 0) c in
          and_from (eqb (length h.dislodged) 0) (eqb (length h.barred) 0) (eq-eqb _ _ (sym (length_shuffle a.dislodged) ∙ eqb-true _ _ k.0)) (eq-eqb _ _ (none_members g.barred h.barred a.barred (eqb-true _ _ k.1)))

  lawful_same : Lawful n h
  lawful_same =
      record {
        apart = keys_shuffle unit_region a.units l.apart;
        stand = stand_same a.units l.stand;
        out_apart = keys_shuffle unit_region out_units l.out_apart;
        out_stand = stand_same out_units l.out_stand;
        out_from = (λ i. all (λ d. from_board (bare (sym b.regions i)) d.from) h.dislodged) ∙ (sym (all_shuffle (λ d. from_board m d.from) a.dislodged) ∙ l.out_from);
        owned = (λ i. good_owners (sym b.regions i) (sym a.owners i)) ∙ l.owned;
        on_the_board = (λ i. all (on_board (bare (sym b.regions i))) h.barred) ∙ all_members (on_board m) g.barred h.barred a.barred l.on_the_board;
        calm = calm_same;
      }

pub same_by_region : (m : Board) (g h : Game) → AlikeGames g h → Lawful m g → SameByRegion g h
same_by_region m g h a l =
    record {
      units = λ k. by_region_same unit_region k a.units l.apart;
      dislodged = λ k. by_region_same dislodged_region k a.dislodged (subst (λ q. distinct q ≡ true) (map_keys dislodged_region unit_region (λ d. d.unit) (λ d. refl) g.dislodged) l.out_apart);
      barred = λ k i. those k (λ r. a.barred r i);
    }

board_back : {m n : Board} → SameBoard m n → SameBoard n m
board_back b = record { regions = sym b.regions; march = λ p q. sym (b.march p q); sail = λ p q. sym (b.sail p q) }

game_back : {g h : Game} → AlikeGames g h → AlikeGames h g
game_back a = record { phase = sym a.phase; units = shuffle_sym a.units; dislodged = shuffle_sym a.dislodged; barred = λ r. sym (a.barred r); owners = sym a.owners }

pub alike_stand : AlikeStand
alike_stand m n g h b a =
    record { good = good_same m n b; lawful = (lawful_same m n b g h a, lawful_same n m (board_back b) h g (game_back a)); region_by_region = same_by_region m g h a }
