use Rattle.std.proofs.Common.{arith}
use Rattle.std.proofs.lemmas.Result.{err_from_is_err_and}
use Rattle.sitefile.proofs.Forms.{begins, first_of}
use Rattle.sitefile.proofs.Walks.{faulty_number, number_read}
use Rattle.sitefile.proofs.reader.Reader.number.Goals as goal

pub returns-in_err-n : goal.returns-in_err-n
returns-in_err-n c =
    let told = c.in_err-n.ensures in
    let p = err_from_is_err_and c.from_residual.result c.from_residual.ensures.1 in
    rw (p.1, p.2) (faulty_number (first_of (omega arith) told.read))

pub returns : goal.returns
returns c =
    let told = c.in_ok-n.ensures in
    number_read told.size (begins told.read)
