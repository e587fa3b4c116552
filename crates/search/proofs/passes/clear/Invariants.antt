use Rattle.std.proofs.Common.{◌≡◌, ℕ, ◌<◌, ◌≤◌, get_or}
use Rattle.sheet.specs.Sheets.{blank}
use Rattle.search.specs.Passes.{cleared}
use Rattle.search.proofs.passes.clear.Given as goal

abbrev pub invariant-loop-entry : goal.invariant-loop-entry
invariant-loop-entry g l =
    ((s : ℕ) → s < l.entry-index → get_or l.sheet s blank ≡ cleared (get_or l.initial.sheet s blank))
    × ((s : ℕ) → l.entry-index ≤ s → get_or l.sheet s blank ≡ get_or l.initial.sheet s blank)
