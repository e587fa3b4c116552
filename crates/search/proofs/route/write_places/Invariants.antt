use Rattle.std.proofs.Common.{◌≡◌, ◌-◌, ◌++◌, drop}
use Rattle.sheet.specs.Sheets.{link_of}
use Rattle.search.specs.Trails.{walk, trail}
use Rattle.search.proofs.route.write_places.Given as goal

abbrev pub invariant-loop-at : goal.invariant-loop-at
invariant-loop-at g l =
    (l.place ≡ walk (link_of l.sheet) (l.count - l.«at») l.target)
    × (drop l.«at» l.list ≡ trail (link_of l.sheet) (l.count - l.«at») l.target ++ drop l.count l.initial.list)
