use Rattle.values.proofs.TriTables.{tri_laws}
use Rattle.values.proofs.laws.tri_laws_stand.Goals as goal

pub returns : goal.returns
returns c = tri_laws
