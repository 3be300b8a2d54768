-- To whom centres belong after the autumn.
use Rattle.year_laws.proofs.Owners.{autumn_owners}
use Rattle.year_laws.proofs.autumn_owners_stand.Goals as goal

pub returns : goal.returns
returns c = autumn_owners
