use Rattle.std.proofs.Common.{ap, ◌∙◌, arith, rules}
use Rattle.sitefile.specs.Faults.{out_of_range}
use Rattle.sitefile.specs.Formats.{no_number, outside}
use Rattle.sitefile.proofs.Fields.{passed_on}
use Rattle.sitefile.proofs.Walks.{begins_number, size_kept, number_fault, size_stays}
use Rattle.sitefile.proofs.reader.Reader.ranged.Goals as goal

pub returns-in_err-n : goal.returns-in_err-n
returns-in_err-n c =
    let told = c.in_err-n.ensures in
    record { size = size_stays told; read = passed_on _ _ c.from_residual.result c.from_residual.ensures.1 (no_number (number_fault told)) }

pub returns-then-not-contains : goal.returns-then-not-contains
returns-then-not-contains c =
    let told = c.in_ok-n.ensures in
    let h = c.if-not-contains.ensures.value in
    record { size = size_kept told; read = outside _ _ (begins_number told) (search rules) (c.at.ensures ∙ ap out_of_range (omega arith)) }
