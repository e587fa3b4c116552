use Rattle.std.proofs.Common.{◌≡◌, sym, ◌∙◌, ap₂, arith}
use Rattle.tables.specs.Tapes.{larger_difference, place_at}
use Rattle.sitefile.proofs.Rules.{next_place, too_fast, all_kept}
use Rattle.sitefile.proofs.lane_run.LaneRun.with_lane.Goals as goal

pub returns-then-lane-larger_difference : goal.returns-then-lane-larger_difference
returns-then-lane-larger_difference c = λ ps before at r.
    let next = c.in_ok-run.ensures ps before at r in
    let found = c.in_ok-end.ensures ps at in
    let end : c.in_ok-end.end ≡ place_at ps c.args.lane.to = cc in
    let same = c.larger_difference.ensures ∙ ap₂ larger_difference (next_place next) end in
    too_fast ps before c.args.lane (omega arith)

pub returns : goal.returns
returns c = λ ps before at r.
    let next = c.in_ok-run.ensures ps before at r in
    let found = c.in_ok-end.ensures ps at in
    let end : c.in_ok-end.end ≡ place_at ps c.args.lane.to = cc in
    let same = c.larger_difference.ensures ∙ ap₂ larger_difference (next_place next) end in
    (all_kept ps before c.args.lane next.in_order next.few_before (omega arith) (sym c.if-not-is_not_under.ensures), next.last_run)
