-- Where the links lead. Assumes nothing.
use Rattle.std.specs.Prelude.{◌≡◌, ℕ, zero, suc, ◌<◌, ◌≤◌, false, List, [], ◌∷◌, ◌++◌, length, ◌≢◌}
use Rattle.cost.specs.declared.lengths.Length.TheVariants.{Finite}
use Rattle.cost.specs.Costs.{Kind}
use Rattle.cost.specs.Lengths.{length_le}
use Rattle.sheet.specs.declared.Entry.{Entry}
use Rattle.sheet.specs.Sheets.{distance_of, link_of}

-- the place k links back from s
unfoldable pub walk : (ℕ → ℕ) → ℕ → ℕ → ℕ
walk link zero s = s
walk link (suc k) s = walk link k (link s)

-- the last k places on the way by the links to s, s last
unfoldable pub trail : (ℕ → ℕ) → ℕ → ℕ → List ℕ
trail link zero s = []
trail link (suc k) s = trail link k (link s) ++ (s ∷ [])

-- a place of the sheet with a distance
abbrev pub Led : {C : Type 0} → List (Entry C) → ℕ → Type 0
Led {C} sheet s = (s < length sheet) × ((c : C) × (distance_of sheet s ≡ Finite c))

-- each place with a distance, the start apart, has a link to a strictly nearer one
abbrev pub LinksBack : {C : Type 0} → Kind C → List (Entry C) → ℕ → Type 0
LinksBack K sheet start = (s : ℕ) → Led sheet s → (s ≢ start) → Led sheet (link_of sheet s) × (length_le K (distance_of sheet s) (distance_of sheet (link_of sheet s)) ≡ false)

-- k links lead from the target back to a place with a distance, and the start is not passed
pub record Walked {C : Type 0} (sheet : List (Entry C)) (start target place k : ℕ) : Type 0 where
  pub led : Led sheet place
  pub short : k < length sheet
  pub here : walk (link_of sheet) k target ≡ place
  pub others : (j : ℕ) → j < k → walk (link_of sheet) j target ≢ start
  pub places : (j : ℕ) → j ≤ k → walk (link_of sheet) j target < length sheet
