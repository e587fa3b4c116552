use Rattle.std.proofs.Common.{arith}
use Rattle.std.proofs.lemmas.Int.{ints}
use Rattle.sitefile.proofs.TapeRecords.{below_zero}
use Rattle.sitefile.proofs.reader.Reader.coordinate.Goals as goal

pub returns-else-n-eq0-clause-read : goal.returns-else-n-eq0-clause-read
returns-else-n-eq0-clause-read c =
    let told = c.in_ok-n.ensures in
    below_zero _ (omega (arith, ints, told.read.begins.small)) c.if-n-eq0.false told.read
