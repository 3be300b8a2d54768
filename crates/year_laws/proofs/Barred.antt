-- Barred regions: the test over all regions finds just those to which a move with a path came to nothing.
use Rattle.std.proofs.Common.{◌≡◌, ℕ, ◌<◌, true, ◌&&◌, ◌↔◌, List, length, sym, ap, ◌∙◌, subst}
use mathlib.Core.List.{Memᴰ}
use Rattle.std.proofs.lemmas.Bool.{false≢true, ltb-true, and_parts, and_from}
use Rattle.values.specs.Fold.{any}
use Rattle.values.specs.Tri.{is_yes, is_no}
use Rattle.board.specs.Board.{Board, can_stand}
use Rattle.board.specs.Order.{goes_to, is_move, aim}
use Rattle.board.specs.Legal.{as_played}
use Rattle.assignment.specs.declared.resolution.Resolution.{Resolution}
use Rattle.paths.specs.Paths.{path}
use Rattle.deciding.specs.Outcome.{outcome}
use Rattle.game.specs.declared.phase.Phase.{Phase}
use Rattle.game.specs.declared.phase.Phase.TheVariants.{SpringMoves, SpringRetreats, AutumnMoves, AutumnRetreats, Winter}
use Rattle.game.specs.declared.text.Written.{Written}
use Rattle.game.specs.Game.{Game, is_moves}
use Rattle.game.specs.Texts.{ordered_one, ordered}
use Rattle.game.specs.AfterMoves.{bounced, contested}
use Rattle.game.specs.Turn.{turn_in}
use Rattle.year_laws.specs.BarredLaw.{Bounced, BarredLaw}
use Rattle.year_laws.proofs.Members.{any_at, any_of, those-at, those_of}
use Rattle.year_laws.proofs.LawfulFacts.{can_on_board, Good, good}
use Rattle.year_laws.proofs.Orders.{goes_move, move_goes, yes_is, no_is}
use Rattle.year_laws.proofs.Moved.{outcome_mem, played_can}

module _ (m : Board) (xs : List Resolution) (r : ℕ) where
  bounced_of : any (bounced m xs r) xs ≡ true → Bounced m xs r
  bounced_of e =
      let q = any_at (bounced m xs r) xs e in
      let a = and_parts (goes_to r q.0.order) (is_no q.0.value && is_yes (path m q.0 xs)) q.2 in
      let b = and_parts (is_no q.0.value) (is_yes (path m q.0 xs)) a.1 in
      let c = goes_move r q.0.order a.0 in
      record { mover = q.0; one_of = q.1; convoyed = c.0; goes = c.1; failed = no_is _ b.0; had_path = yes_is _ b.1 }

  of_bounced : Bounced m xs r → any (bounced m xs r) xs ≡ true
  of_bounced b =
      any_of (bounced m xs r) xs b.mover b.one_of
      (and_from (goes_to r b.mover.order) (is_no b.mover.value && is_yes (path m b.mover xs)) (move_goes r b.mover.order b.convoyed b.goes)
      (and_from (is_no b.mover.value) (is_yes (path m b.mover xs)) (ap is_no b.failed) (ap is_yes b.had_path)))

  contested_of : (r < length m.regions) → Bounced m xs r → Memᴰ r (contested m xs)
  contested_of h b = those_of (length m.regions) (λ k. any (bounced m xs k) xs) r h (of_bounced b)

  of_contested : Memᴰ r (contested m xs) → Bounced m xs r
  of_contested i = bounced_of (those-at (length m.regions) (λ k. any (bounced m xs k) xs) r i).1

-- on a good board every move ends on the board
bounced_small : (m : Board) (g : Game) (ws : List Written) → Good m → (r : ℕ) → Bounced m (outcome m (ordered g.units ws)) r → r < length m.regions
bounced_small m g ws gm r b = ltb-true _ _ (can_on_board m b.mover.unit.fleet r (subst (λ o. can_stand m b.mover.unit.fleet (aim o) ≡ true) (sym e ∙ b.goes) (played_can m gm b.mover.unit (ordered_one ws b.mover.unit).order (ap is_move (sym e ∙ b.goes)))))
  where
    e : b.mover.order ≡ as_played m b.mover.unit (ordered_one ws b.mover.unit).order
    e = (outcome_mem m g.units ws b.mover b.one_of).1

pub barred_law : BarredLaw
barred_law m g ws gb ph r = go g.phase ph
  where
    both : Memᴰ r (contested m (outcome m (ordered g.units ws))) ↔ Bounced m (outcome m (ordered g.units ws)) r
    both = (of_contested m (outcome m (ordered g.units ws)) r, λ b. contested_of m (outcome m (ordered g.units ws)) r (bounced_small m g ws (good m gb) r b) b)

    go : (p : Phase) → is_moves p ≡ true → Memᴰ r (turn_in p m g ws).barred ↔ Bounced m (outcome m (ordered g.units ws)) r
    go SpringMoves e = both
    go SpringRetreats e = absurd (false≢true e)
    go AutumnMoves e = both
    go AutumnRetreats e = absurd (false≢true e)
    go Winter e = absurd (false≢true e)
