use Rattle.std.proofs.Common.{rules}
use Rattle.values.specs.Fold.{gather, count_up}
use Rattle.adjudicator.proofs.Standing.{stands}
use Rattle.adjudicator.proofs.referee.Adjudicator.new.Goals as goal

pub returns : goal.returns
unfolding gather count_up
returns c =
    record { board = c.in_ok-position.ensures.0; game = c.in_ok-position.ensures.1; last = search rules; stands = stands c.in_ok-position.position }
