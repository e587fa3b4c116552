use Rattle.routes.proofs.Estimates.{altered_consistent, altered_within, altered_self}
use Rattle.routes.proofs.Relaxation.{altered_greatest}
use Rattle.routes.proofs.Settings.{altered_unchanged}
use Rattle.routes.proofs.altered_estimates_are_greatest.Goals as goal

pub returns : goal.returns
returns g c =
    let laws = g.met.C.Cost.lawful in
    record {
      consistent = λ m lawful. altered_consistent laws lawful;
      within = λ m lawful e s h. altered_within laws lawful e s;
      bounded = λ m lawful. altered_self laws lawful;
      greatest = λ m lawful e. altered_greatest laws lawful e;
      unchanged = altered_unchanged laws;
    }
