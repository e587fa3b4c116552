use Rattle.sitefile.specs.Records.{Walked}
use Rattle.sitefile.proofs.reader.Reader.pass_over.Given as goal

abbrev pub invariant-loop-i : goal.invariant-loop-i
invariant-loop-i g l = Walked (g.L.Layout.records l.layout) l._i l.initial.self l.self
