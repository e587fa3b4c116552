use Rattle.routes.specs.Routes.{distance}
use Rattle.routes.proofs.Search.{searching_start, least_final, searching_turn, target_final, none_left, unmarked_answer, unmarked_kept}
use Rattle.routes.proofs.Links.{links_turn}
use Rattle.routes.proofs.Outcomes.{opening_turn}
use Rattle.routes.proofs.search_takes_places_at_their_distance.Goals as goal

pub returns : goal.returns
returns g c =
    let laws = g.met.C.Cost.lawful in
    record {
      starts = λ m lawful start first. searching_start laws lawful start first;
      takes = λ m lawful start first e consistent h marked inv. least_final laws lawful start first e consistent h marked inv;
      turns = λ m lawful start first. searching_turn laws lawful start first;
      opening = λ m lawful. opening_turn laws lawful;
      links = λ m lawful. links_turn laws lawful;
      answer = λ m lawful start first target e sound h marked inv. target_final laws lawful start first e sound.consistent h marked inv target sound.target_zero;
      unreached = λ m lawful start first target e ht sound h marked inv o. none_left laws lawful start first e sound.consistent h marked inv target sound.target_zero ht o;
      kept = λ m lawful start first e consistent h marked inv target none s l o. (unmarked_answer laws lawful start first e consistent h marked inv (distance g.C.Cost.kind m start target) none s l o, unmarked_kept laws lawful start first e consistent h marked inv target none s l o);
    }
