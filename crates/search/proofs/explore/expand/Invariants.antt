use Rattle.std.proofs.Common.{length, take}
use Rattle.search.specs.Exploring.{Swept}
use Rattle.search.proofs.explore.expand.Given as goal

abbrev pub invariant-loop-way : goal.invariant-loop-way
invariant-loop-way g l =
    let m = g.S.Site.meaning l.site in
    Swept g.S.Cost.Cost.kind m l.from (take (length l.yielded) (m.ways l.from)) l.initial.sheet l.sheet l.initial.queue l.queue
