use Rattle.std.proofs.Common.{◌≡◌, false, ◌&&◌, leb}
use Rattle.std.proofs.lemmas.Bool.{and_left, and_right, lt-leb}
use Rattle.sitefile.specs.Formats.{here, later}
use Rattle.sitefile.proofs.Fields.{passed_on, field_at, check_failed}
use Rattle.sitefile.proofs.reader.Reader.tape_head.Goals as goal
use Rattle.sitefile.proofs.reader.Reader.tape_head.Goals.{then-place_entries-places-via-then-place_entries-places, then-place_entries-places-via-else-place_entries-places+then-lane_entries-lanes}

pub returns-in_err-places-clause-read : goal.returns-in_err-places-clause-read
returns-in_err-places-clause-read c =
    passed_on _ _ c.from_residual.result c.from_residual.ensures.1 (here c.in_err-places.ensures.read)

pub returns-in_err-lanes-clause-read : goal.returns-in_err-lanes-clause-read
returns-in_err-lanes-clause-read c =
    let places = c.in_ok-places.ensures in
    passed_on _ _ c.from_residual-in_err-lanes.result c.from_residual-in_err-lanes.ensures.1 (later _ _ places.read (here (field_at places.size c.in_err-lanes.ensures.read)))

pub returns-then-place_entries-places-clause-read : goal.returns-then-place_entries-places-clause-read
returns-then-place_entries-places-clause-read c =
    let small : leb c.in_ok-places.places c.args.place_entries && leb c.in_ok-lanes.lanes c.args.lane_entries ≡ false = elim c.then-place_entries-places.branch [
      | then-place_entries-places-via-then-place_entries-places w ↦ and_left _ _ (lt-leb c.in_ok-places.places c.args.place_entries w.if-place_entries-places.true)
      | then-place_entries-places-via-else-place_entries-places+then-lane_entries-lanes w ↦ and_right _ _ (lt-leb c.in_ok-lanes.lanes c.args.lane_entries w.if-lane_entries-lanes.true)
    ] in
    rw c.at.ensures (later _ _ c.in_ok-places.ensures.read (later _ _ c.in_ok-lanes.ensures.read (check_failed small)))
