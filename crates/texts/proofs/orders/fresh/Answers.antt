use Rattle.std.proofs.Common.{append_assoc, append-nil, arith, rules}
use Rattle.std.proofs.lemmas.List.{drop_all}
use Rattle.board.specs.Atlas.{board_of}
use Rattle.tables.proofs.Folds.{unit_more}
use Rattle.tables.proofs.Placement.{stand_at}
use Rattle.texts.proofs.orders.fresh.Goals as goal

pub fresh_one-requires : goal.fresh_one-requires
fresh_one-requires c = (stand_at (board_of c.args.atlas.now) c.args.units.now _ c.requires (omega arith)).power

pub loop-u-preserved : goal.loop-u-preserved
loop-u-preserved c = search (rules, unit_more, append_assoc)

pub returns : goal.returns
returns c = search (rules, drop_all, append-nil)
