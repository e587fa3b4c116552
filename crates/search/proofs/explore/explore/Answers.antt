use Rattle.std.proofs.Common.{◌≡◌, ◌<◌, true, false, length, sym, ap, ◌∙◌, subst, arith, rules}
use Rattle.cost.specs.Lengths.{Within, length_le}
use Rattle.sheet.specs.Sheets.{estimate_of, distance_of, sum_of, Relaxed}
use Rattle.search.specs.Exploring.{Exploring}
use Rattle.search.proofs.Exploration.{explored_none, explored_found, opened_few, improving, exploring_turn}
use Rattle.search.proofs.Starting.{relaxed_estimates, exploring_start}
use Rattle.search.proofs.explore.explore.Goals as goal

pub loop-place-init : goal.loop-place-init
loop-place-init g c =
    let K = g.S.Cost.Cost.kind in
    let m = g.S.Site.meaning c.args.site.now in
    let sheet = c.args.sheet.now in
    let after = c.relax.new.sheet in
    let q = c.new-queue.result in
    let r = c.relax.new.queue in
    let start = c.args.start in
    let relaxed = subst (Relaxed K sheet after q r start start) c.zero.ensures c.relax.ensures in (
      subst (λ e. Exploring K m start c.args.target e after r 0) (relaxed_estimates sheet after q r start start c.zero.result c.relax.ensures)
          (exploring_start g.met.S.Cost.Cost.lawful (g.met.S.Site.lawful c.args.site.now) start c.args.target c.requires.named.0 sheet after q r c.requires.fresh relaxed),
      c.relax.ensures.same.long ∙ ap length c.new-queue.ensures.memory,
    )

pub returns-then-is_settled : goal.returns-then-is_settled
returns-then-is_settled g c =
    let K = g.S.Cost.Cost.kind in
    let l = c.loop-place in
    let x = c.in-Some.place in
    let long = l.auto.sheet ∙ c.relax.auto.sheet ∙ c.requires.memory.0 in
    let settled : length_le K (distance_of l.sheet c.args.target) (sum_of K l.sheet x) ≡ true = sym c.is_settled.ensures ∙ c.if-is_settled.true in
    explored_found g.met.S.Cost.Cost.lawful g.met.S.Cost.PositiveCost.positive (g.met.S.Site.lawful c.args.site.now) c.args.start c.args.target c.requires.named.0 c.requires.named.1 (estimate_of c.args.sheet.now) c.requires.sound l.sheet l.queue l.opened l.invariant.0 long c.next_place.new.queue x c.in-Some.ensures settled

pub open_place-requires-clause-ready : goal.open_place-requires-clause-ready
open_place-requires-clause-ready g c =
    let l = c.loop-place in
    let popped = c.in-Some.ensures in
    record {
      long = l.auto.sheet ∙ c.relax.auto.sheet ∙ c.requires.memory.0;
      room = omega (arith, popped.same.long, l.invariant.1, c.requires.memory.1);
      estimates = λ s h. subst (Within g.S.Cost.Cost.kind) (sym (l.invariant.0.estimates s)) (c.requires.sound.within s h);
      ordered = popped.ordered;
    }

pub open_place-requires-clause-improves : goal.open_place-requires-clause-improves
open_place-requires-clause-improves g c =
    let K = g.S.Cost.Cost.kind in
    let l = c.loop-place in
    let x = c.in-Some.place in
    let long = l.auto.sheet ∙ c.relax.auto.sheet ∙ c.requires.memory.0 in
    let unsettled : length_le K (distance_of l.sheet c.args.target) (sum_of K l.sheet x) ≡ false = sym c.is_settled.ensures ∙ c.if-is_settled.false in
    improving g.met.S.Cost.Cost.lawful g.met.S.Cost.PositiveCost.positive (g.met.S.Site.lawful c.args.site.now) c.args.start c.args.target c.requires.named.0 c.requires.named.1 (estimate_of c.args.sheet.now) c.requires.sound l.sheet l.queue l.opened l.invariant.0 long c.next_place.new.queue x c.in-Some.ensures unsettled

pub overflow_add-opened : goal.overflow_add-opened
overflow_add-opened g c =
    let lawful = g.met.S.Site.lawful c.args.site.now in
    let l = c.loop-place in
    let long = l.auto.sheet ∙ c.relax.auto.sheet ∙ c.requires.memory.0 in
    let few = opened_few g.met.S.Cost.Cost.lawful g.met.S.Cost.PositiveCost.positive lawful c.args.start c.args.target c.requires.named.0 c.requires.named.1 (estimate_of c.args.sheet.now) c.requires.sound l.sheet l.queue l.opened l.invariant.0 long c.next_place.new.queue c.in-Some.place c.in-Some.ensures in
    let most : l.opened < 4096 = omega (arith, lawful.places_few) in
    search rules

pub loop-place-smaller : goal.loop-place-smaller
loop-place-smaller g c =
    let l = c.loop-place in
    let long = l.auto.sheet ∙ c.relax.auto.sheet ∙ c.requires.memory.0 in
    let few = opened_few g.met.S.Cost.Cost.lawful g.met.S.Cost.PositiveCost.positive (g.met.S.Site.lawful c.args.site.now) c.args.start c.args.target c.requires.named.0 c.requires.named.1 (estimate_of c.args.sheet.now) c.requires.sound l.sheet l.queue l.opened l.invariant.0 long c.next_place.new.queue c.in-Some.place c.in-Some.ensures in
    omega (arith, c.requires.memory.0)

pub loop-place-preserved : goal.loop-place-preserved
loop-place-preserved g c =
    let K = g.S.Cost.Cost.kind in
    let l = c.loop-place in
    let x = c.in-Some.place in
    let popped = c.in-Some.ensures in
    let swept = c.open_place.ensures in
    let long = l.auto.sheet ∙ c.relax.auto.sheet ∙ c.requires.memory.0 in
    let unsettled : length_le K (distance_of l.sheet c.args.target) (sum_of K l.sheet x) ≡ false = sym c.is_settled.ensures ∙ c.if-is_settled.false in (
      exploring_turn g.met.S.Cost.Cost.lawful g.met.S.Cost.PositiveCost.positive (g.met.S.Site.lawful c.args.site.now) c.args.start c.args.target c.requires.named.0 c.requires.named.1 (estimate_of c.args.sheet.now) c.requires.sound l.sheet l.queue l.opened l.invariant.0 long c.next_place.new.queue x popped unsettled c.open_place.new.sheet c.open_place.new.queue swept (c.open_place.auto.sheet ∙ long),
      swept.same.long ∙ popped.same.long ∙ l.invariant.1,
    )

pub returns : goal.returns
returns g c =
    let l = c.loop-place in
    let long = l.auto.sheet ∙ c.relax.auto.sheet ∙ c.requires.memory.0 in
    explored_none g.met.S.Cost.Cost.lawful g.met.S.Cost.PositiveCost.positive (g.met.S.Site.lawful c.args.site.now) c.args.start c.args.target c.requires.named.0 c.requires.named.1 (estimate_of c.args.sheet.now) c.requires.sound l.sheet l.queue l.opened l.invariant.0 long c.in_default.ensures.0
