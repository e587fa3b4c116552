use Rattle.sitefile.proofs.Runs.{Filled}
use Rattle.sitefile.proofs.reader.Reader.fill.Given as goal

abbrev pub invariant-loop-entry : goal.invariant-loop-entry
invariant-loop-entry g l = Filled (g.L.Layout.records l.layout) l.entry-index l.initial.self l.self l.initial.table l.table
