use Rattle.std.proofs.Common.{◌∙◌}
use Rattle.sitefile.specs.Formats.{here, later}
use Rattle.sitefile.specs.Tapes.{places}
use Rattle.sitefile.proofs.Fields.{field_at}
use Rattle.sitefile.proofs.Runs.{not_read}
use Rattle.sitefile.proofs.places.PlacesLayout.read.Goals as goal

pub returns-in_err-x : goal.returns-in_err-x
returns-in_err-x c =
    let told = c.in_err-x.ensures in
    not_read places c.from_residual.result c.from_residual.ensures.1 told.size (λ before next. here told.read)

pub returns-in_err-y : goal.returns-in_err-y
returns-in_err-y c =
    let x = c.in_ok-x.ensures in
    let told = c.in_err-y.ensures in
    not_read places c.from_residual-in_err-y.result c.from_residual-in_err-y.ensures.1 (told.size ∙ x.size) (λ before next. later _ _ x.read (here (field_at x.size told.read)))
