-- Cells and the states of lanes: closed, or open at a cost. Assumes nothing.
use Rattle.std.specs.Prelude.{ℕ, Option, Some, None}
use Rattle.tables.specs.declared.State.{State}
use Rattle.tables.specs.declared.State.TheVariants.{Closed, Open}
use Rattle.tables.specs.declared.tape.LaneCost.{LaneCost}

-- a cell of a floor: closed, or how many milliseconds it takes to enter
abbrev pub Cell : Type 0
Cell = State ℕ

-- the state of a lane: closed, or its present cost
abbrev pub LaneState : Type 0
LaneState = State LaneCost

-- what it costs to enter, and none while it is closed
abbrev pub open_cost : {T : Type 0} → State T → Option T
open_cost Closed = None
open_cost (Open cost) = Some cost
