use Rattle.routes.proofs.Distances.{distance_is_least, distance_unique, distance_reached, distance_unreached, distance_segments, distance_within}
use Rattle.routes.proofs.distances_are_least_costs.Goals as goal

pub returns : goal.returns
returns g c =
    let laws = g.met.C.Cost.lawful in
    record {
      exists = λ m lawful. distance_is_least laws lawful;
      unique = λ m lawful. distance_unique laws lawful;
      infinite = λ m lawful s t h. (λ ps. distance_reached laws lawful s t ps h, distance_unreached laws lawful s t h);
      segments = λ m lawful. distance_segments laws lawful;
      within = λ m lawful. distance_within laws lawful;
    }
