use Rattle.routes.proofs.Relaxation.{relaxing_start, relaxing_turn, relaxing_end}
use Rattle.routes.proofs.relaxation_reaches_altered_estimates.Goals as goal

pub returns : goal.returns
returns g c =
    let laws = g.met.C.Cost.lawful in
    record {
      starts = λ m lawful e. relaxing_start laws lawful e;
      turns = λ m lawful e. relaxing_turn laws lawful e;
      ends = λ m lawful e. relaxing_end laws lawful e;
    }
