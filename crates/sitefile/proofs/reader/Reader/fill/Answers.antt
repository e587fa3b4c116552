use Rattle.std.proofs.Common.{arith}
use Rattle.sitefile.proofs.Fields.{passed_on}
use Rattle.sitefile.proofs.Runs.{stops, filled_none, filled_more}
use Rattle.sitefile.proofs.reader.Reader.fill.Goals as goal

pub loop-entry-init : goal.loop-entry-init
loop-entry-init g c = filled_none (g.L.Layout.records c.args.layout.now) c.args.self.now c.args.table.now

pub loop-entry-preserved : goal.loop-entry-preserved
loop-entry-preserved g c = filled_more (g.L.Layout.records c.args.layout.now) c.loop-entry.invariant (omega arith) c.in_ok-entry.ensures

pub returns-in_err-entry-clause-read : goal.returns-in_err-entry-clause-read
returns-in_err-entry-clause-read g c =
    passed_on _ _ c.from_residual.result c.from_residual.ensures.1 (stops (g.L.Layout.records c.args.layout.now) c.loop-entry.invariant.walk (omega arith) c.in_err-entry.ensures)
