-- Floors and tapes as they are printed. Assumes nothing.
use Rattle.std.specs.Prelude.{ℕ, List, ◌++◌, Option, Some, codes, decimal}
use Rattle.tables.specs.declared.State.{State}
use Rattle.tables.specs.declared.State.TheVariants.{Closed, Open}
use Rattle.tables.specs.declared.FloorHead.{FloorHead}
use Rattle.tables.specs.declared.tape.TapeHead.{TapeHead}
use Rattle.tables.specs.declared.tape.LaneCost.{LaneCost}

-- what is closed is printed as -, what is open as its cost
abbrev pub state_text : {T : Type 0} → (T → Option (List ℕ)) → State T → Option (List ℕ)
state_text text Closed = Some (codes "-")
state_text text (Open cost) = text cost

abbrev pub head_line : FloorHead → List ℕ
head_line head = codes "floor " ++ (decimal head.rows ++ (codes " x " ++ (decimal head.columns ++ (codes ", free " ++ decimal head.free))))

abbrev pub tape_line : TapeHead → List ℕ
tape_line head = codes "tape " ++ (decimal head.places ++ (codes " places, " ++ (decimal head.lanes ++ codes " lanes")))

abbrev pub lane_cost_text : LaneCost → List ℕ
lane_cost_text cost = decimal cost.crossings ++ (codes "/" ++ decimal cost.milliseconds)
