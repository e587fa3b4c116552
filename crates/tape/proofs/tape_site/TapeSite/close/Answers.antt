use Rattle.std.proofs.Common.{refl}
use Rattle.cost.specs.declared.lengths.Length.TheVariants.{Infinite}
use Rattle.tables.specs.declared.State.TheVariants.{Closed}
use Rattle.tape.proofs.Settings.{set_lane}
use Rattle.tape.proofs.tape_site.TapeSite.close.Goals as goal

pub invariant_of-self : goal.invariant_of-self
invariant_of-self c =
    let s = c.args.self.now in
    let k = set_lane s.places.now s.lanes.now c.args.segment Closed c.if-self-number.false s.sound s.noted Infinite refl refl in
    record { sound = k.sound; noted = k.noted }

pub returns : goal.returns
returns c =
    let s = c.args.self.now in
    let k = set_lane s.places.now s.lanes.now c.args.segment Closed c.if-self-number.false s.sound s.noted Infinite refl refl in
    record { answer = k.answer; after = k.site; directory = k.directory }
