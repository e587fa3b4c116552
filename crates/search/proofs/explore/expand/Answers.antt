use Rattle.std.proofs.Common.{◌≡◌, false, length, take, sym, ◌∙◌, subst, arith}
use Rattle.std.proofs.lemmas.List.{take_all, length_push}
use Rattle.cost.specs.Lengths.{Within, length_le}
use Rattle.site.proofs.WaysMet.{walk_meets, walk_ends}
use Rattle.sheet.specs.Sheets.{distance_of, Relaxed}
use Rattle.search.specs.Exploring.{Swept}
use Rattle.search.proofs.Sweeps.{read_distance, offered_is, segment_there, end_place, state_within, swept_turn, next_within, next_estimate, next_room}
use Rattle.search.proofs.explore.expand.Goals as goal

pub cost_over-cost-requires : goal.cost_over-cost-requires
cost_over-cost-requires g c =
    let m = g.S.Site.meaning c.args.site.now in
    let x = c.args.from in
    let w = c.in-Some.way in
    let is = walk_meets g.S.Site.meaning m x c.requires.place c.of-way-items.result c.into_iter-way-iterator.result c.of-way-items.ensures c.into_iter-way-iterator.ensures.into_iter_gives c.loop-way.yielded c.loop-way.way-iterator c.loop-way.yielded_by c.next.result c.next.new.self c.next.ensures.steps w c.in-Some.is in
    segment_there g.met.S.Cost.Cost.lawful (g.met.S.Site.lawful c.args.site.now) x (length c.loop-way.yielded) c.requires.place w is

pub plus-requires : goal.plus-requires
plus-requires g c =
    let m = g.S.Site.meaning c.args.site.now in
    let x = c.args.from in
    let w = c.in-Some.way in
    let is = walk_meets g.S.Site.meaning m x c.requires.place c.of-way-items.result c.into_iter-way-iterator.result c.of-way-items.ensures c.into_iter-way-iterator.ensures.into_iter_gives c.loop-way.yielded c.loop-way.way-iterator c.loop-way.yielded_by c.next.result c.next.new.self c.next.ensures.steps w c.in-Some.is in (
      subst (Within g.S.Cost.Cost.kind) (sym (read_distance c.args.sheet.now x c.index-sheet-from.result (omega (arith, c.requires.ready.long, c.requires.place)) c.index-sheet-from.is)) c.requires.within,
      subst (Within g.S.Cost.Cost.kind) (sym c.cost_over-cost.ensures) (state_within g.met.S.Cost.Cost.lawful (g.met.S.Site.lawful c.args.site.now) x (length c.loop-way.yielded) c.requires.place w is),
    )

pub relax-requires : goal.relax-requires
relax-requires g c =
    let K = g.S.Cost.Cost.kind in
    let laws = g.met.S.Cost.Cost.lawful in
    let m = g.S.Site.meaning c.args.site.now in
    let lawful = g.met.S.Site.lawful c.args.site.now in
    let x = c.args.from in
    let w = c.in-Some.way in
    let is = walk_meets g.S.Site.meaning m x c.requires.place c.of-way-items.result c.into_iter-way-iterator.result c.of-way-items.ensures c.into_iter-way-iterator.ensures.into_iter_gives c.loop-way.yielded c.loop-way.way-iterator c.loop-way.yielded_by c.next.result c.next.new.self c.next.ensures.steps w c.in-Some.is in
    let i = length c.loop-way.yielded in
    let sheet = c.args.sheet.now in
    let mid = c.loop-way.sheet in
    let offered = offered_is K sheet x c.index-sheet-from.result c.cost_over-cost.result (m.state w.segment) c.plus.result (omega (arith, c.requires.ready.long, c.requires.place)) c.index-sheet-from.is c.cost_over-cost.ensures c.plus.ensures in
    let swept = c.loop-way.invariant in
    let q = c.args.queue.now in
    let r = c.loop-way.queue in
    let end = end_place laws lawful x i c.requires.place w is in
    let same = c.loop-way.auto.sheet in
    record {
      listed = omega (arith, c.requires.ready.long);
      within = subst (λ d. length_le K (distance_of mid w.end) d ≡ false → Within K d) (sym offered) (next_within laws lawful x i c.requires.place w is sheet mid q r swept c.requires.improves);
      fine = next_estimate laws lawful x i c.requires.place w is sheet mid q r swept c.requires.ready.estimates;
      ordered = swept.ordered;
      room = next_room laws lawful x i c.requires.place w is sheet mid q r swept (same ∙ c.requires.ready.long) c.requires.ready.room;
    }

pub loop-way-preserved : goal.loop-way-preserved
loop-way-preserved g c =
    let K = g.S.Cost.Cost.kind in
    let laws = g.met.S.Cost.Cost.lawful in
    let m = g.S.Site.meaning c.args.site.now in
    let x = c.args.from in
    let w = c.in-Some.way in
    let is = walk_meets g.S.Site.meaning m x c.requires.place c.of-way-items.result c.into_iter-way-iterator.result c.of-way-items.ensures c.into_iter-way-iterator.ensures.into_iter_gives c.loop-way.yielded c.loop-way.way-iterator c.loop-way.yielded_by c.next.result c.next.new.self c.next.ensures.steps w c.in-Some.is in
    let i = length c.loop-way.yielded in
    let sheet = c.args.sheet.now in
    let mid = c.loop-way.sheet in
    let after = c.relax.new.sheet in
    let r = c.loop-way.queue in
    let t = c.relax.new.queue in
    let offered = offered_is K sheet x c.index-sheet-from.result c.cost_over-cost.result (m.state w.segment) c.plus.result (omega (arith, c.requires.ready.long, c.requires.place)) c.index-sheet-from.is c.cost_over-cost.ensures c.plus.ensures in
    let relaxed = subst (λ d. Relaxed K mid after r t x w.end d) offered c.relax.ensures in
    subst (λ n. Swept K m x (take n (m.ways x)) sheet after c.args.queue.now t) (sym (length_push c.loop-way.yielded w))
    (swept_turn laws (g.met.S.Site.lawful c.args.site.now) x i c.requires.place w is sheet mid c.args.queue.now r c.loop-way.invariant after t relaxed)

pub returns : goal.returns
returns g c =
    let m = g.S.Site.meaning c.args.site.now in
    let x = c.args.from in
    let done = walk_ends g.S.Site.meaning m x c.requires.place c.of-way-items.result c.into_iter-way-iterator.result c.of-way-items.ensures c.into_iter-way-iterator.ensures.into_iter_gives c.loop-way.yielded c.loop-way.way-iterator c.loop-way.yielded_by c.next.result c.next.new.self c.next.ensures.steps c.in-None.is in
    subst (λ ws. Swept g.S.Cost.Cost.kind m x ws c.args.sheet.now c.loop-way.sheet c.args.queue.now c.loop-way.queue) (take_all (length c.loop-way.yielded) (m.ways x) (omega arith)) c.loop-way.invariant
