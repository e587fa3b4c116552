-- What the parts of the question whether a sheet is sound tell. Assumes nothing.
use Rattle.std.specs.Prelude.{ℕ, ◌<◌, Bool, true, false, List}
use Rattle.cost.specs.Costs.{Kind}
use Rattle.cost.specs.Lengths.{AtMost, Within, length_le, sum}
use Rattle.routes.specs.Sites.{Meaning, Way}
use Rattle.site.specs.declared.Way.{Way as WayOut}
use Rattle.sheet.specs.declared.Entry.{Entry}
use Rattle.sheet.specs.Sheets.{estimate_of}

-- An answer tells whether P holds. Not `IsTrue answer ↔ P`: of the question put to each place in turn, a proof found no such clause.
abbrev pub Tells : Bool → Type 0 → Type 0
Tells true P = P
Tells false P = P → ⊥

-- every cost among the first n estimates lies within the ceiling
abbrev pub AllWithin : {C : Type 0} → Kind C → ℕ → List (Entry C) → Type 0
AllWithin K n sheet = (s : ℕ) → s < n → Within K (estimate_of sheet s)

-- whether the estimate at s is at most the cost of a way out of it plus the estimate at its end
abbrev pub is_way_consistent : {C : Type 0} → Kind C → Meaning C → List (Entry C) → ℕ → WayOut → Bool
is_way_consistent K m sheet s w = length_le K (estimate_of sheet s) (sum K (m.state w.segment) (estimate_of sheet w.end))

-- every open way out of s is consistent
abbrev pub ConsistentFrom : {C : Type 0} → Kind C → Meaning C → List (Entry C) → ℕ → Type 0
ConsistentFrom K m sheet s = (u f : ℕ) → Way m s u f → AtMost K (estimate_of sheet s) (sum K (m.state f) (estimate_of sheet u))
