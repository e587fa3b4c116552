use Rattle.routes.proofs.Estimates.{opened_sound, opened_hinted, altered_sound, altered_hinted, retargeted_sound, retargeted_hinted, searched_sound, searched_hinted}
use Rattle.routes.proofs.calls_keep_estimates_sound.Goals as goal

pub returns : goal.returns
returns g c =
    let laws = g.met.C.Cost.lawful in
    record {
      opens = λ m lawful target h. (opened_sound laws lawful target h, opened_hinted laws lawful target);
      alters = λ m f x lawful target e h sound hinted. (altered_sound laws lawful target e h sound.target_zero, altered_hinted laws lawful target e h hinted);
      retargets = λ m lawful target n e h sound. (retargeted_sound laws lawful target n e h sound, retargeted_hinted laws lawful n e);
      searches = λ m lawful start target e h sound hinted. (searched_sound laws lawful start target e h sound, searched_hinted laws lawful start target e hinted);
    }
