use Rattle.cost.proofs.LengthLemmas.{length_laws}
use Rattle.cost.proofs.lengths.lengths_are_lawful.Goals as goal

pub returns : goal.returns
returns g c = length_laws g.met.C.Cost.lawful
