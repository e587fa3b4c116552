use Rattle.std.proofs.Common.{ap, ◌∙◌, arith, rules}
use Rattle.sitefile.specs.Faults.{out_of_range}
use Rattle.sitefile.specs.Formats.{no_number, outside, here}
use Rattle.sitefile.specs.Floors.{cells}
use Rattle.sitefile.proofs.Runs.{not_read}
use Rattle.sitefile.proofs.Cells.{no_cell}
use Rattle.sitefile.proofs.Walks.{begins_number, size_kept, number_fault, size_stays}
use Rattle.sitefile.proofs.floor.CellsLayout.read.Goals as goal

pub returns-in_err-time : goal.returns-in_err-time
returns-in_err-time c =
    let told = c.in_err-time.ensures in
    not_read (cells c.args.self.now.free) c.from_residual.result c.from_residual.ensures.1 (size_stays told) (λ before next. here (no_number (number_fault told)))

pub returns-then-not-contains : goal.returns-then-not-contains
returns-then-not-contains c =
    let told = c.in_ok-time.ensures in
    let h = c.if-not-contains.ensures.value in
    record {
      read = λ before next. here (outside _ _ (begins_number told) (no_cell _ _ c.if-time-eq0.false (search rules)) (c.at.ensures ∙ ap out_of_range (omega arith)));
      same_size = size_kept told;
    }
