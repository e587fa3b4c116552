use Rattle.std.proofs.Common.{◌≡◌, ◌%◌, min}
use Rattle.sitefile.specs.TapeParts.{PlacesWalked}
use Rattle.sitefile.proofs.places.PlaceIndex.read.Given as goal

abbrev pub invariant-loop-first : goal.invariant-loop-first
invariant-loop-first l = (l.first % 64 ≡ 0) × PlacesWalked (min l.first l.count) l.initial.reader l.reader l.starts.items
