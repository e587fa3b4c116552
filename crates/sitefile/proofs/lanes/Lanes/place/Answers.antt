use Rattle.sitefile.proofs.Fields.{passed_on}
use Rattle.sitefile.proofs.TapeRecords.{number_refused}
use Rattle.sitefile.proofs.lanes.Lanes.place.Goals as goal

pub returns-in_err-n-clause-read : goal.returns-in_err-n-clause-read
returns-in_err-n-clause-read c =
    passed_on _ _ c.from_residual.result c.from_residual.ensures.1 (number_refused c.args.self.now.some c.in_err-n.ensures.read)
