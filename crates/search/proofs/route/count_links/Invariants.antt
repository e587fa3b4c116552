use Rattle.std.proofs.Common.{◌+◌, ◌-◌, ◌<◌, length}
use Rattle.sheet.specs.Sheets.{distance_of}
use Rattle.routes.proofs.Links.{rank}
use Rattle.search.specs.Trails.{Walked}
use Rattle.search.proofs.route.count_links.Given as goal

abbrev pub invariant-loop-place : goal.invariant-loop-place
invariant-loop-place g l =
    Walked l.sheet l.start l.target l.place l.links
    × (l.links + rank g.C.Cost.kind (length l.sheet) (distance_of l.sheet) l.place < length l.sheet)

abbrev pub decreases-loop-place : goal.decreases-loop-place
decreases-loop-place g l = length l.sheet - l.links
