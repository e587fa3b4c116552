use Rattle.std.proofs.Common.{arith}
use Rattle.sitefile.specs.Records.{Walked}
use Rattle.sitefile.proofs.Fields.{passed_on}
use Rattle.sitefile.proofs.Runs.{one_more, stops}
use Rattle.sitefile.proofs.reader.Reader.pass_over.Goals as goal

pub loop-i-preserved : goal.loop-i-preserved
loop-i-preserved g c = one_more (g.L.Layout.records c.args.layout.now) c.loop-i.invariant c.in_ok-read.ensures

pub returns-in_err-read : goal.returns-in_err-read
returns-in_err-read g c =
    let told = c.in_err-read.ensures in
    passed_on (λ _. Walked (g.L.Layout.records c.args.layout.now) c.args.count c.args.self.now c.read.new.reader) _ c.from_residual.result c.from_residual.ensures.1 (stops (g.L.Layout.records c.args.layout.now) c.loop-i.invariant (omega arith) told)
