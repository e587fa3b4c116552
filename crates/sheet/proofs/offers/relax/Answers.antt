use Rattle.std.proofs.Common.{◌≡◌, true, false, set, sym, ap, ◌∙◌, subst}
use Rattle.std.proofs.lemmas.List.{get_or_read}
use Rattle.cost.specs.Lengths.{Within, length_le, sum}
use Rattle.queue.specs.Queues.{Offered}
use Rattle.sheet.specs.Sheets.{blank, sum_of, by_sum, Summable, reached, Relaxed}
use Rattle.sheet.proofs.Relaxing.{relaxed_none, relaxed_queued, relaxed_far, lesser_sum, tested}
use Rattle.sheet.proofs.offers.relax.Goals as goal

pub returns-then-is_at_most : goal.returns-then-is_at_most
returns-then-is_at_most g c =
    let sheet = c.args.sheet.now in
    let p = c.args.place in
    let is = get_or_read sheet p c.index-sheet-place.result c.requires.listed c.index-sheet-place.is blank in
    let low = tested g.met.C.Cost.lawful sheet p c.args.from c.args.distance _ is c.is_at_most.result true c.is_at_most.ensures c.if-is_at_most.true in
    relaxed_none g.met.C.Cost.lawful sheet p c.args.from c.args.distance c.args.queue.now low c.requires.ordered

pub improve-requires-clause-readable : goal.improve-requires-clause-readable
improve-requires-clause-readable g c =
    let sheet = c.args.sheet.now in
    let p = c.args.place in
    let is = get_or_read sheet p c.index-sheet-place.result c.requires.listed c.index-sheet-place.is blank in
    let above = tested g.met.C.Cost.lawful sheet p c.args.from c.args.distance _ is c.is_at_most.result false c.is_at_most.ensures c.if-is_at_most.false in
    record { distance = c.requires.within above; estimate = subst (λ t. Within g.C.Cost.kind t.estimate) (sym is) c.requires.fine }

pub improve-requires-clause-lesser : goal.improve-requires-clause-lesser
improve-requires-clause-lesser g c =
    let K = g.C.Cost.kind in
    let sheet = c.args.sheet.now in
    let p = c.args.place in
    let d = c.args.distance in
    let is = get_or_read sheet p c.index-sheet-place.result c.requires.listed c.index-sheet-place.is blank in
    let above = tested g.met.C.Cost.lawful sheet p c.args.from d _ is c.is_at_most.result false c.is_at_most.ensures c.if-is_at_most.false in
    subst (λ t. length_le K (sum K d t.estimate) (sum_of K sheet p) ≡ true) (sym is) (lesser_sum g.met.C.Cost.lawful sheet p c.args.from d c.requires.listed above)

pub returns-in-Finite : goal.returns-in-Finite
returns-in-Finite g c =
    let K = g.C.Cost.kind in
    let sheet = c.args.sheet.now in
    let p = c.args.place in
    let d = c.args.distance in
    let is = get_or_read sheet p c.index-sheet-place.result c.requires.listed c.index-sheet-place.is blank in
    let above = tested g.met.C.Cost.lawful sheet p c.args.from d _ is c.is_at_most.result false c.is_at_most.ensures c.if-is_at_most.false in
    let q = c.args.queue.now in
    let r = c.improve.new.queue in
    let written = c.improve.ensures.sheet ∙ ap (λ t. set sheet p (reached t d c.args.from)) is in
    subst (λ t. Relaxed K sheet t q r c.args.from p d) (sym written)
    (relaxed_queued g.met.C.Cost.lawful sheet p c.args.from d c.requires.listed above q r (subst (λ t. Offered (Summable K t) (by_sum K t) q r p) written c.improve.ensures.queue))

pub returns-in-Infinite : goal.returns-in-Infinite
returns-in-Infinite g c =
    let K = g.C.Cost.kind in
    let sheet = c.args.sheet.now in
    let p = c.args.place in
    let d = c.args.distance in
    let from = c.args.from in
    let is = get_or_read sheet p c.index-sheet-place.result c.requires.listed c.index-sheet-place.is blank in
    let above = tested g.met.C.Cost.lawful sheet p c.args.from d _ is c.is_at_most.result false c.is_at_most.ensures c.if-is_at_most.false in
    let far = ap (λ t. t.estimate) (sym is) ∙ c.in-Infinite.is in
    let q = c.args.queue.now in
    subst (λ t. Relaxed K sheet (set sheet p (reached t d from)) q q from p d) (sym is) (relaxed_far g.met.C.Cost.lawful sheet p from d c.requires.listed above far (c.requires.within above) c.requires.fine q c.requires.ordered)
