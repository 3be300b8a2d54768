use Rattle.names_laws.proofs.Good.{board_names_good}
use Rattle.names_laws.proofs.board_names_good_stands.Goals as goal

pub returns : goal.returns
returns c = board_names_good
