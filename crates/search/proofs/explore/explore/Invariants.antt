use Rattle.std.proofs.Common.{◌≡◌, ◌-◌, length}
use Rattle.sheet.specs.Sheets.{estimate_of}
use Rattle.search.specs.Exploring.{Exploring}
use Rattle.search.proofs.explore.explore.Given as goal

abbrev pub invariant-loop-place : goal.invariant-loop-place
invariant-loop-place g l =
    Exploring g.S.Cost.Cost.kind (g.S.Site.meaning l.site) l.start l.target (estimate_of l.fn.sheet) l.sheet l.queue l.opened
    × (length l.queue.places.now ≡ length l.fn.queue)

abbrev pub decreases-loop-place : goal.decreases-loop-place
decreases-loop-place g l = length l.fn.sheet - l.opened
