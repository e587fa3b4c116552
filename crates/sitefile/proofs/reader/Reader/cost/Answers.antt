use Rattle.std.proofs.Common.{◌∙◌}
use Rattle.sitefile.specs.Formats.{here, later}
use Rattle.sitefile.specs.Tapes.{costs}
use Rattle.sitefile.proofs.Runs.{not_read}
use Rattle.sitefile.proofs.Fields.{field_at}
use Rattle.sitefile.proofs.reader.Reader.cost.Goals as goal

pub returns-in_err-crossings : goal.returns-in_err-crossings
returns-in_err-crossings c =
    let told = c.in_err-crossings.ensures in
    not_read costs c.from_residual.result c.from_residual.ensures.1 told.size (λ before next. here told.read)

pub returns-in_err-milliseconds : goal.returns-in_err-milliseconds
returns-in_err-milliseconds c =
    let crossings = c.in_ok-crossings.ensures in
    let told = c.in_err-milliseconds.ensures in
    not_read costs c.from_residual-in_err-milliseconds.result c.from_residual-in_err-milliseconds.ensures.1 (told.size ∙ crossings.size) (λ before next. later _ _ crossings.read (here (field_at crossings.size told.read)))
