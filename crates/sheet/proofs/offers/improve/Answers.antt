use Rattle.std.proofs.Common.{sym, subst}
use Rattle.queue.specs.Queues.{Stale}
use Rattle.sheet.specs.Sheets.{Keyed, by}
use Rattle.sheet.proofs.Improving.{improved_stale}
use Rattle.sheet.proofs.offers.improve.Goals as goal

pub offer-requires-clause-stale : goal.offer-requires-clause-stale
offer-requires-clause-stale g c =
    let K = g.C.Cost.kind in
    let place = c.args.place in
    let reads = g.K.Key.reads _ K in
    let key = g.K.Key.key _ K in
    subst (λ t. Stale (Keyed reads t) (by K key t) c.args.queue.now place) (sym c.new.ensures) (improved_stale reads c.args.sheet.now place c.args.entry c.requires.listed c.requires.readable g.met.C.Cost.lawful key c.requires.lesser c.args.queue.now c.requires.ordered)
