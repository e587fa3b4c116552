use Rattle.std.proofs.Common.{sym, ap, ◌∙◌}
use Rattle.cost.specs.CrossingsFirst.{crossings_first}
use Rattle.cost.specs.declared.lengths.Length.TheVariants.{Finite}
use Rattle.routes.specs.Sites.{allowed}
use Rattle.tables.specs.declared.State.TheVariants.{Open}
use Rattle.tape.specs.TapeSites.{cost_of}
use Rattle.tape.proofs.Settings.{set_lane}
use Rattle.tape.proofs.tape_site.TapeSite.set_cost.Goals as goal

pub invariant_of-self : goal.invariant_of-self
invariant_of-self c =
    let s = c.args.self.now in
    let state = Finite c.args.cost in
    let k = set_lane s.places.now s.lanes.now c.args.segment (Open c.lane_cost.result) c.if-self-entry.false s.sound s.noted state
    (ap (λ v. Finite (cost_of v)) c.lane_cost.ensures)
    (ap (λ floor. allowed crossings_first floor state) (sym c.cost_of.ensures) ∙ sym c.is_allowed.ensures ∙ c.if-not-is_allowed.false) in
    record { sound = k.sound; noted = k.noted }

pub returns : goal.returns
returns c =
    let s = c.args.self.now in
    let state = Finite c.args.cost in
    let k = set_lane s.places.now s.lanes.now c.args.segment (Open c.lane_cost.result) c.if-self-entry.false s.sound s.noted state
    (ap (λ v. Finite (cost_of v)) c.lane_cost.ensures)
    (ap (λ floor. allowed crossings_first floor state) (sym c.cost_of.ensures) ∙ sym c.is_allowed.ensures ∙ c.if-not-is_allowed.false) in
    record { answer = k.answer; after = k.site; directory = k.directory }
