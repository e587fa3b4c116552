use Rattle.tables.specs.Tapes.{no_place}
use Rattle.tape.proofs.Questions.{source_none, entered_there, source_some}
use Rattle.tape.proofs.tape_site.TapeSite.source.Goals as goal

pub returns-then-here-index : goal.returns-then-here-index
returns-then-here-index c =
    let s = c.args.self.now in
    let got = c.in_ok-here.ensures.lookup.3 in
    source_none s.places.now s.lanes.now s.noted c.args.place c.args.index got.0 c.in_ok-here.here.now (got.1 no_place) c.if-here-index.true

pub bounds-self-lane : goal.bounds-self-lane
bounds-self-lane c =
    let s = c.args.self.now in
    let got = c.in_ok-here.ensures.lookup.3 in
    entered_there s.places.now s.lanes.now s.noted c.args.place c.args.index got.0 c.in_ok-here.here.now (got.1 no_place) c.if-here-index.false

pub returns : goal.returns
returns c =
    let s = c.args.self.now in
    let got = c.in_ok-here.ensures.lookup.3 in
    source_some s.places.now s.lanes.now s.noted c.args.place c.args.index got.0 c.in_ok-here.here.now (got.1 no_place) c.if-here-index.false
