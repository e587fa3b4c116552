use Rattle.routes.proofs.Links.{link_route}
use Rattle.routes.proofs.Outcomes.{outcome_found, outcome_none}
use Rattle.routes.proofs.search_leaves_a_cheapest_route.Goals as goal

pub returns : goal.returns
returns g c =
    let laws = g.met.C.Cost.lawful in
    let positive = g.met.C.PositiveCost.positive in
    record {
      links = λ m lawful start first. link_route laws positive lawful start;
      found = λ m lawful. outcome_found laws positive lawful;
      exhausted = λ m lawful. outcome_none laws positive lawful;
    }
