use Rattle.std.proofs.Common.{sym, subst}
use Rattle.tape.proofs.Building.{Kept, part_ordered, kept_built, kept_none}
use Rattle.tape.proofs.Tape.new.Goals as goal
use Rattle.tape.proofs.Tape.new.Goals.{in-Sound, in-Faulty}

pub build-requires : goal.build-requires
build-requires c = part_ordered c.args.head c.args.places.now c.args.lanes.now c.in-Sound.ensures

pub invariant_of-result : goal.invariant_of-result
invariant_of-result c =
    let head = c.args.head in
    let ps = c.args.places.now in
    let ls = c.args.lanes.now in
    let kept : Kept head ps ls c.match-verdict.result.0.now c.match-verdict.result.1.0.now =
    elim c.match-verdict.branch [
      | in-Sound w ↦ subst (λ r. Kept head ps ls r.0.now r.1.0.now) (sym w.result-is) (kept_built head ps ls w.in-Sound.ensures _ _ w.build.ensures)
      | in-Faulty w ↦ subst (λ r. Kept head ps ls r.0.now r.1.0.now) (sym w.result-is) (kept_none head ps ls w.in-Faulty.ensures)
    ] in
    record { sound = kept.sound; noted = kept.noted }

pub returns : goal.returns
returns c =
    let head = c.args.head in
    let ps = c.args.places.now in
    let ls = c.args.lanes.now in
    let kept : Kept head ps ls c.match-verdict.result.0.now c.match-verdict.result.1.0.now =
    elim c.match-verdict.branch [
      | in-Sound w ↦ subst (λ r. Kept head ps ls r.0.now r.1.0.now) (sym w.result-is) (kept_built head ps ls w.in-Sound.ensures _ _ w.build.ensures)
      | in-Faulty w ↦ subst (λ r. Kept head ps ls r.0.now r.1.0.now) (sym w.result-is) (kept_none head ps ls w.in-Faulty.ensures)
    ] in
    kept.over
