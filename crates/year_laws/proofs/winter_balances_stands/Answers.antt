-- After a winter nobody has more units than centres.
use Rattle.year_laws.proofs.Counted.{winter_balances}
use Rattle.year_laws.proofs.winter_balances_stands.Goals as goal

pub returns : goal.returns
returns c = winter_balances
