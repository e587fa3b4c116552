use Rattle.std.proofs.Common.{length}
use Rattle.tape.proofs.Checking.{Checked}
use Rattle.tape.proofs.rules.are_lanes_sound.Given as goal

abbrev pub invariant-loop-lane : goal.invariant-loop-lane
invariant-loop-lane l = Checked (length l.places) l.places l.lanes l.lane-index l.run.from l.run.lanes
