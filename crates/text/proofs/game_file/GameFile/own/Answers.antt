use Rattle.std.proofs.Common.{rules}
use Rattle.std.proofs.lemmas.List.{get_or_past, set_past}
use Rattle.text.proofs.game_file.GameFile.own.Goals as goal

pub returns-else-region-len : goal.returns-else-region-len
returns-else-region-len c = search (rules, get_or_past, set_past)
