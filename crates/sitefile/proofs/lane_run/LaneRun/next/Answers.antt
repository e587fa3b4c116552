use Rattle.std.proofs.Common.{◌≡◌, ◌<◌, Some, refl, subst, arith}
use Rattle.tables.specs.Tapes.{place_at}
use Rattle.sitefile.specs.declared.lane_run.LaneRun.{LaneRun}
use Rattle.sitefile.specs.TapeParts.{RunOf}
use Rattle.sitefile.proofs.Rules.{goes_on, begins}
use Rattle.sitefile.proofs.lane_run.LaneRun.next.Goals as goal
use Rattle.sitefile.proofs.lane_run.LaneRun.next.Goals.{in_default-via-in-Some-2+else-lane-run-2, in_default-via-in_default}

pub returns-in-Some-2 : goal.returns-in-Some-2
returns-in-Some-2 c = λ ps before at r. goes_on (subst (RunOf ps before) c.in-Some-2.is r) c.args.lane c.longer.result c.if-lane-run-2.true c.longer.ensures

pub returns-in_ok-place-in_default : goal.returns-in_ok-place-in_default
returns-in_ok-place-in_default c = λ ps before at r.
    let later : (q : LaneRun) → c.args.run ≡ Some q → q.from < c.args.lane.from = λ q e. elim c.in_default.branch [
      | in_default-via-in-Some-2+else-lane-run-2 w ↦
          let some = w.in-Some.is in
          let again = w.in-Some-2.is in
          let first : q.from ≡ w.in-Some.run'.from = cc in
          let second : q.from ≡ w.in-Some-2.run'.from = cc in
          omega (arith, w.if-lane-run.false, w.if-lane-run-2.false)
      | in_default-via-in_default w ↦ absurd (w.in_default.not-Some q e)
    ] in
    let found = c.in_ok-place-in_default.ensures ps at in
    let is : c.in_ok-place-in_default.place ≡ place_at ps c.args.lane.from = cc in
    begins c.args.run c.args.lane _ r later refl is refl
