use Rattle.std.proofs.Common.{◌*◌, ◌∙◌, arith}
use Rattle.std.proofs.lemmas.Bool.{le-leb, lt-leb}
use Rattle.sitefile.specs.Formats.{here, later}
use Rattle.sitefile.proofs.Fields.{passed_on, field_at, check_passed, check_failed}
use Rattle.sitefile.proofs.reader.Reader.floor_head.Goals as goal

pub returns-in_err-rows-clause-read : goal.returns-in_err-rows-clause-read
returns-in_err-rows-clause-read c =
    passed_on _ _ c.from_residual.result c.from_residual.ensures.1 (here c.in_err-rows.ensures.read)

pub returns-in_err-columns-clause-read : goal.returns-in_err-columns-clause-read
returns-in_err-columns-clause-read c =
    let rows = c.in_ok-rows.ensures in
    passed_on _ _ c.from_residual-in_err-columns.result c.from_residual-in_err-columns.ensures.1 (later _ _ rows.read (here (field_at rows.size c.in_err-columns.ensures.read)))

pub returns-then-entries-rows-clause-read : goal.returns-then-entries-rows-clause-read
returns-then-entries-rows-clause-read c =
    let small = lt-leb (c.in_ok-rows.rows * c.in_ok-columns.columns) c.args.entries (omega arith) in
    rw c.at.ensures (later _ _ c.in_ok-rows.ensures.read (later _ _ c.in_ok-columns.ensures.read (check_failed small)))

pub returns-in_err-free-clause-read : goal.returns-in_err-free-clause-read
returns-in_err-free-clause-read c =
    let rows = c.in_ok-rows.ensures in
    let columns = c.in_ok-columns.ensures in
    let room = le-leb (c.in_ok-rows.rows * c.in_ok-columns.columns) c.args.entries (omega arith) in
    passed_on _ _ c.from_residual-in_err-free.result c.from_residual-in_err-free.ensures.1 (later _ _ rows.read (later _ _ columns.read (check_passed room (here (field_at (columns.size ∙ rows.size) c.in_err-free.ensures.read)))))
