use Rattle.std.proofs.Common.{◌≡◌, true, false, rules}
use Rattle.std.proofs.lemmas.Iterator.{cases_from_all}
use Rattle.std.proofs.lemmas.Iterator.Adapters.{serves_from_places}
use Rattle.std.proofs.lemmas.Iterator.Consumers.{YieldsList-from_first}
use Rattle.site.specs.WaysOut.{ways_of, ways_left}
use Rattle.soundness.specs.Checks.{is_way_consistent}
use Rattle.soundness.proofs.Checking.{met, consistent_told}
use Rattle.soundness.proofs.are_ways_consistent.Goals as goal

pub all-requires-clause-callable : goal.all-requires-clause-callable
all-requires-clause-callable g c =
    let m = g.S.Site.meaning c.args.site.now in
    let s = c.args.place in
    serves_from_places (YieldsList-from_first (λ x. x) (ways_left g.S.Site.meaning) (ways_of m s) c.of.ensures) (λ x q k. search rules)
    (λ x k inside at. let way = met g.S.Cost.Cost.kind m c.args.sheet.now s c.requires.place k x inside at in let lawful = g.met.S.Site.lawful c.args.site.now in let end = lawful.way_place s x.end x.segment way in let segment = lawful.way_segment s x.end x.segment way in search rules)

pub returns : goal.returns
returns g c =
    let K = g.S.Cost.Cost.kind in
    let m = g.S.Site.meaning c.args.site.now in
    let sheet = c.args.sheet.now in
    let s = c.args.place in
    consistent_told K m sheet s c.requires.place c.all.result
    (cases_from_all c.all.new.self _ c.all.result (λ w. true ≡ is_way_consistent K m sheet s w) (λ w. false ≡ is_way_consistent K m sheet s w) c.all.ensures.ran
    (YieldsList-from_first (λ x. x) (ways_left g.S.Site.meaning) (ways_of m s) c.of.ensures) (λ x q k. search rules) (λ x q k. search rules))
