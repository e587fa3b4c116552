use Rattle.std.proofs.Common.{[], ◌∙◌}
use Rattle.tables.specs.Tapes.{unnoted_lane}
use Rattle.sitefile.specs.Formats.{here, later}
use Rattle.sitefile.specs.Tapes.{state_format, lane_numbers}
use Rattle.sitefile.proofs.Runs.{not_read}
use Rattle.sitefile.proofs.Fields.{field_at, fault_at}
use Rattle.sitefile.proofs.TapeRecords.{after_cost, lane_read}
use Rattle.sitefile.proofs.lanes.LanesLayout.read.Goals as goal

pub returns-in_err-from : goal.returns-in_err-from
returns-in_err-from c =
    let told = c.in_err-from.ensures in
    not_read (lane_numbers c.args.self.now.places) c.from_residual.result c.from_residual.ensures.1 told.size (λ before next. here told.read)

pub returns-in_err-to : goal.returns-in_err-to
returns-in_err-to c =
    let from = c.in_ok-from.ensures in
    let told = c.in_err-to.ensures in
    not_read (lane_numbers c.args.self.now.places) c.from_residual-in_err-to.result c.from_residual-in_err-to.ensures.1 (told.size ∙ from.size) (λ before next. later _ _ from.read (here (field_at from.size told.read)))

pub returns-in_err-floor : goal.returns-in_err-floor
returns-in_err-floor c =
    let from = c.in_ok-from.ensures in
    let to = c.in_ok-to.ensures in
    let told = c.in_err-floor.ensures in
    let same = to.size ∙ from.size in
    not_read (lane_numbers c.args.self.now.places) c.from_residual-in_err-floor.result c.from_residual-in_err-floor.ensures.1 (told.same_size ∙ same) (λ before next. later _ _ from.read (later _ _ to.read (fault_at same (told.read [] (λ floor. state_format (λ state. next (unnoted_lane c.in_ok-from.from c.in_ok-to.to floor state)))))))

pub returns-in_err-state : goal.returns-in_err-state
returns-in_err-state c =
    let from = c.in_ok-from.ensures in
    let to = c.in_ok-to.ensures in
    let floor = c.in_ok-floor.ensures in
    let told = c.in_err-state.ensures in
    let same = floor.same_size ∙ to.size ∙ from.size in
    not_read (lane_numbers c.args.self.now.places) c.from_residual-in_err-state.result c.from_residual-in_err-state.ensures.1 (told.same_size ∙ same) (λ before next. later _ _ from.read (later _ _ to.read (after_cost (λ floor. state_format (λ state. next (unnoted_lane c.in_ok-from.from c.in_ok-to.to floor state))) (floor.read []).0 (floor.read []).1 (fault_at same (told.read [] (λ state. next (unnoted_lane c.in_ok-from.from c.in_ok-to.to c.in_ok-floor.floor state)))))))

pub returns : goal.returns
returns c =
    let from = c.in_ok-from.ensures in
    let to = c.in_ok-to.ensures in
    lane_read c.args.self.now.places from.read to.read (to.size ∙ from.size) c.in_ok-floor.ensures c.in_ok-state.ensures c.new.ensures
