use Rattle.std.proofs.Common.{List}
use Rattle.tables.specs.declared.tape.Place.{Place}
use Rattle.sitefile.specs.TapeParts.{PlacesAt, LanesWalked}
use Rattle.sitefile.proofs.reader.Reader.check_lanes.Given as goal

abbrev pub invariant-loop-i : goal.invariant-loop-i
invariant-loop-i l = (ps : List Place) → PlacesAt ps l.places → LanesWalked l.places.count ps l._i l.initial.self l.self l.run
