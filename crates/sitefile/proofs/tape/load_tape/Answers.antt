use Rattle.std.proofs.Common.{[], length, take, sym, refl, ◌∙◌}
use Rattle.std.proofs.lemmas.Result.{err_from_is_err_and}
use Rattle.std.proofs.lemmas.Bool.{and_parts}
use Rattle.tables.specs.Tapes.{most_places}
use Rattle.sitefile.specs.Formats.{ended}
use Rattle.sitefile.specs.Records.{many}
use Rattle.sitefile.specs.Tapes.{places, lanes}
use Rattle.sitefile.proofs.Fields.{at_most, fault_at}
use Rattle.sitefile.proofs.FloorFiles.{first_entries}
use Rattle.sitefile.proofs.TapeRecords.{places_laws, lanes_laws}
use Rattle.sitefile.proofs.PlaceIndexes.{same_count}
use Rattle.sitefile.proofs.Runs.{fault_among, after_many, no_second_fault}
use Rattle.sitefile.proofs.TapeFiles.{after_counts, no_lane_fault, tape_loaded}
use Rattle.sitefile.proofs.tape.load_tape.Goals as goal

pub returns-in_err-index : goal.returns-in_err-index
returns-in_err-index c =
    let head = c.in_ok-head.ensures in
    let told = c.in_err-index.ensures in
    let p = err_from_is_err_and c.from_residual-in_err-index.result c.from_residual-in_err-index.ensures.1 in
    rw (p.1, p.2) (after_counts head.read (fault_at head.size (fault_among places places_laws told (λ ps. many (lanes c.in_ok-head.head.places ps) c.in_ok-head.head.lanes [] (λ _. ended)))), refl, refl)

pub returns-in_err-check_lanes : goal.returns-in_err-check_lanes
returns-in_err-check_lanes c =
    let head = c.in_ok-head.ensures in
    let walked = c.in_ok-index.ensures in
    let n = c.in_ok-head.head.places in
    let m = c.in_ok-head.head.lanes in
    let told = rw (same_count walked) at (c.in_err-check_lanes.ensures walked.walk.values walked.at) in
    let p = err_from_is_err_and c.from_residual-in_err-check_lanes.result c.from_residual-in_err-check_lanes.ensures.1 in
    rw (p.1, p.2) (after_counts head.read (fault_at head.size (after_many places places_laws walked.walk (λ ps. many (lanes n ps) m [] (λ _. ended)) (fault_among (lanes n walked.walk.values) (lanes_laws n walked.walk.values (at_most 1 most_places n head.read.places_ranged)) told (λ _. ended)))), refl, refl)

pub returns-in_err-end : goal.returns-in_err-end
returns-in_err-end c =
    let head = c.in_ok-head.ensures in
    let walked = c.in_ok-index.ensures in
    let n = c.in_ok-head.head.places in
    let m = c.in_ok-head.head.lanes in
    let ls = rw (same_count walked) at (c.in_ok-check_lanes.ensures walked.walk.values walked.at) in
    let told = c.in_err-end.ensures in
    let p = err_from_is_err_and c.from_residual-in_err-end.result c.from_residual-in_err-end.ensures.1 in
    rw (p.1, p.2) (
      after_counts head.read (fault_at head.size (after_many places places_laws walked.walk (λ ps. many (lanes n ps) m [] (λ _. ended))
          (after_many (lanes n walked.walk.values) (lanes_laws n walked.walk.values (at_most 1 most_places n head.read.places_ranged)) ls (λ _. ended) told))),
      refl,
      refl,
    )

pub returns-in_err-fill : goal.returns-in_err-fill
returns-in_err-fill c =
    let head = c.in_ok-head.ensures in
    let walked = c.in_ok-index.ensures in
    let told = c.in_err-fill.ensures in
    let room = and_parts _ _ head.read.roomy in
    absurd (no_second_fault places places_laws (length (take c.in_ok-head.head.places c.args.places.now)) (first_entries _ c.args.places.now room.0) walked.walk told.read)

pub returns-in_err-fill-2 : goal.returns-in_err-fill-2
returns-in_err-fill-2 c =
    let head = c.in_ok-head.ensures in
    let walked = c.in_ok-index.ensures in
    let n = c.in_ok-head.head.places in
    let ls = rw (same_count walked) at (c.in_ok-check_lanes.ensures walked.walk.values walked.at) in
    let filled = c.in_ok-fill.ensures in
    let told = c.in_err-fill-2.ensures.read in
    let room = and_parts _ _ head.read.roomy in
    absurd (no_lane_fault n walked.walk.values c.fill.new.self (length (take c.in_ok-head.head.lanes c.args.lanes.now)) (at_most 1 most_places n head.read.places_ranged) walked.walk ls filled.read
    (c.fill.auto.table ∙ first_entries _ c.args.places.now room.0) (filled.size ∙ sym walked.walk.same_size) (first_entries _ c.args.lanes.now room.1) told)

pub returns : goal.returns
returns c =
    let head = c.in_ok-head.ensures in
    let walked = c.in_ok-index.ensures in
    let ls = rw (same_count walked) at (c.in_ok-check_lanes.ensures walked.walk.values walked.at) in
    let none = c.in_ok-end.ensures in
    let filled = c.in_ok-fill.ensures in
    let lanes_filled = c.in_ok-fill-2.ensures.read in
    let room = and_parts _ _ head.read.roomy in
    tape_loaded 0 c.fill.new.self head.read walked.walk ls none (c.fill.auto.table ∙ first_entries _ c.args.places.now room.0) filled.read (c.fill-2.auto.table ∙ first_entries _ c.args.lanes.now room.1) lanes_filled
