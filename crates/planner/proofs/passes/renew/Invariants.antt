use Rattle.sheet.specs.Sheets.{estimate_of}
use Rattle.planner.specs.Passes.{Renewed}
use Rattle.planner.proofs.passes.renew.Given as goal

abbrev pub invariant-loop-place : goal.invariant-loop-place
invariant-loop-place g l = Renewed (λ s. goal.F-post g l.estimate ((g.S.Site.meaning l.site).hint s l.target) (estimate_of l.initial.sheet s)) l.place l.initial.sheet l.sheet
