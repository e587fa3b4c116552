use Rattle.std.proofs.Common.{◌≡◌, true, false, take, rules}
use Rattle.std.proofs.lemmas.Iterator.{cases_from_all, YieldsList-from_slice}
use Rattle.cost.specs.Lengths.{length_within}
use Rattle.soundness.proofs.Checking.{walked}
use Rattle.soundness.proofs.are_within.Goals as goal

pub returns : goal.returns
returns g c =
    let K = g.C.Cost.kind in
    let sheet = c.args.sheet.now in
    walked g.met.C.Cost.lawful sheet c.args.places c.requires c.all.result
    (cases_from_all c.all.new.self _ c.all.result (λ e. true ≡ length_within K e.estimate) (λ e. false ≡ length_within K e.estimate) c.all.ensures.ran
    (YieldsList-from_slice (take c.args.places sheet) c.iter.ensures.rest) (λ x q k. search rules) (λ x q k. search rules))
