use Rattle.std.proofs.Common.{rules}
use Rattle.adjudicator.proofs.Standing.{stands}
use Rattle.adjudicator.proofs.promised.begin.Goals as goal

pub returns : goal.returns
returns c = record { verdict = search rules; board = search rules; game = search rules; last = search rules; stands = search (rules, stands) }
