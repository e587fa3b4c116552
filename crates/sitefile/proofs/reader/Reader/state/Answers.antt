use Rattle.std.proofs.Common.{[], ◌∙◌, rules}
use Rattle.tables.specs.declared.State.TheVariants.{Open}
use Rattle.sitefile.specs.Formats.{here}
use Rattle.sitefile.specs.Tapes.{states}
use Rattle.sitefile.proofs.Runs.{not_read}
use Rattle.sitefile.proofs.Fields.{fault_at}
use Rattle.sitefile.proofs.TapeRecords.{open_then, open_read}
use Rattle.sitefile.proofs.reader.Reader.state.Goals as goal

pub returns-in_err-ranged : goal.returns-in_err-ranged
returns-in_err-ranged c =
    let told = c.in_err-ranged.ensures in
    not_read states c.from_residual.result c.from_residual.ensures.1 told.size (λ before next. here told.read)

pub returns-in_err-cost-in_default : goal.returns-in_err-cost-in_default
returns-in_err-cost-in_default c =
    let state = c.in_ok-ranged.ensures in
    let told = c.in_err-cost-in_default.ensures in
    not_read states c.from_residual-in_err-cost-in_default.result c.from_residual-in_err-cost-in_default.ensures.1 (told.same_size ∙ state.size) (λ before next. open_then next state.read (search rules) (fault_at state.size (told.read [] (λ cost. next (Open cost)))))

pub returns-in_ok-cost-in_default : goal.returns-in_ok-cost-in_default
returns-in_ok-cost-in_default c = open_read c.in_ok-ranged.ensures.size c.in_ok-ranged.ensures.read (search rules) c.in_ok-cost-in_default.ensures
