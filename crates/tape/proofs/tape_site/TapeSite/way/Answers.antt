use Rattle.tables.specs.Tapes.{no_place}
use Rattle.tape.proofs.Questions.{way_none, way_some}
use Rattle.tape.proofs.tape_site.TapeSite.way.Goals as goal

pub returns-then-here-index : goal.returns-then-here-index
returns-then-here-index c =
    let s = c.args.self.now in
    let got = c.in_ok-here.ensures.lookup.3 in
    way_none s.places.now s.lanes.now s.noted c.args.place c.args.index got.0 c.in_ok-here.here.now (got.1 no_place) c.if-here-index.true

pub returns : goal.returns
returns c =
    let s = c.args.self.now in
    let got = c.in_ok-here.ensures.lookup.3 in
    way_some s.places.now s.lanes.now s.noted c.args.place c.args.index got.0 c.in_ok-here.here.now (got.1 no_place) c.if-here-index.false
