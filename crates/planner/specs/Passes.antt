-- What a pass over the places leaves of a sheet. Assumes nothing.
use Rattle.std.specs.Prelude.{ℕ, ◌<◌, List}
use Rattle.cost.specs.declared.lengths.Length.{Length}
use Rattle.sheet.specs.declared.Entry.{Entry}
use Rattle.sheet.specs.Sheets.{estimate_of, Kept}

-- each of the first n estimates is one that a relation allows at its place, and all else is kept
pub record Renewed {C : Type 0} (allows : ℕ → Length C → Type 0) (n : ℕ) (before after : List (Entry C)) : Type 0 where
  pub estimates : (s : ℕ) → s < n → allows s (estimate_of after s)
  pub kept : Kept n before after
