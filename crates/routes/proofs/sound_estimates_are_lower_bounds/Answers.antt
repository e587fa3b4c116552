use Rattle.routes.proofs.Estimates.{sound_distance, consistent_route, hint_distance}
use Rattle.routes.proofs.sound_estimates_are_lower_bounds.Goals as goal

pub returns : goal.returns
returns g c =
    let laws = g.met.C.Cost.lawful in
    record {
      distance = λ m lawful target e sound. sound_distance laws lawful sound;
      route = λ m lawful target e sound. consistent_route laws lawful e sound.consistent;
      hint = λ m lawful. hint_distance laws lawful;
    }
