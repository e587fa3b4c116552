use Rattle.std.proofs.Common.{◌<◌, sym, ◌∙◌, subst}
use Rattle.std.proofs.lemmas.Bool.{true≢false}
use Rattle.tape.proofs.Checking.{refuted, not_sound, not_in_order, too_many, checked_more}
use Rattle.tape.proofs.rules.are_lanes_sound.Goals as goal
use Rattle.tape.proofs.rules.are_lanes_sound.Goals.{then-not-is_lane_sound-via-then-not-is_lane_sound, then-not-is_lane_sound-via-else-not-is_lane_sound+then-lane-run}

pub returns-then-not-is_lane_sound : goal.returns-then-not-is_lane_sound
returns-then-not-is_lane_sound c =
    let l = c.loop-lane in
    let ls = c.args.lanes.now in
    let there = c.loop-lane-test.true in
    elim c.then-not-is_lane_sound.branch [
      | then-not-is_lane_sound-via-then-not-is_lane_sound w ↦ refuted (not_sound _ _ ls l.lane-index l.run.from l.run.lanes l.invariant there (λ s. absurd (true≢false (sym (c.is_lane_sound.ensures.1 s) ∙ w.if-not-is_lane_sound.true))))
      | then-not-is_lane_sound-via-else-not-is_lane_sound+then-lane-run w ↦ refuted (not_in_order _ _ ls l.lane-index l.run.from l.run.lanes l.invariant there w.if-lane-run.true)
    ]

pub returns-then-run-gt-MOST_LEAVING : goal.returns-then-run-gt-MOST_LEAVING
returns-then-run-gt-MOST_LEAVING c =
    let l = c.loop-lane in
    refuted (too_many _ _ c.args.lanes.now l.lane-index l.run.from l.run.lanes l.invariant c.loop-lane-test.true c.if-lane-run.false (subst (λ r. 64 < r) c.after-run.ensures.lanes c.if-run-gt-MOST_LEAVING.true))

pub loop-lane-preserved : goal.loop-lane-preserved
loop-lane-preserved c =
    let l = c.loop-lane in
    checked_more _ _ c.args.lanes.now l.lane-index l.run.from l.run.lanes l.invariant c.loop-lane-test.true c.after-run.result.from c.after-run.result.lanes
    (c.is_lane_sound.ensures.0 c.if-not-is_lane_sound.false) c.if-lane-run.false c.after-run.ensures.from c.after-run.ensures.lanes c.if-run-gt-MOST_LEAVING.false
