use Rattle.std.proofs.Common.{◌<◌, length, sym, subst, arith}
use Rattle.search.specs.Exploring.{Ready}
use Rattle.search.proofs.Marks.{mark_written, mark_ready}
use Rattle.search.proofs.explore.open_place.Goals as goal

pub expand-requires-clause-ready : goal.expand-requires-clause-ready
expand-requires-clause-ready g c =
    let m = g.S.Site.meaning c.args.site.now in
    let sheet = c.args.sheet.now in
    let p = c.args.place in
    let listed : p < length sheet = omega (arith, c.requires.ready.long, c.requires.place) in
    let is = sym (mark_written sheet p c.index-sheet-place.result listed c.index-sheet-place.is) in
    subst (λ t. Ready g.S.Cost.Cost.kind m t c.args.queue.now) is (mark_ready sheet p listed g.S.Cost.Cost.kind m c.args.queue.now c.requires.ready)
