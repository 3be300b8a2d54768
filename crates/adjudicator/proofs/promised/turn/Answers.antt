use Rattle.std.proofs.Common.{rules}
use Rattle.calls.specs.Turn.{texts_in}
use Rattle.adjudicator.proofs.Standing.{stands}
use Rattle.adjudicator.proofs.promised.turn.Goals as goal

pub returns : goal.returns
returns c =
    record {
      verdict = search rules;
      board = search rules;
      game = search rules;
      last = search rules;
      promise = (stands c.args.referee.now.position).turns (texts_in c.args.words.now);
      stands = search (rules, stands);
    }
