-- What the passes over the sheet make of an entry. Assumes nothing.
use Rattle.std.specs.Prelude.{false, cond}
use Rattle.cost.specs.declared.lengths.Length.{Length}
use Rattle.cost.specs.declared.lengths.Length.TheVariants.{Infinite}
use Rattle.cost.specs.Costs.{Kind}
use Rattle.cost.specs.Lengths.{remainder, greater}
use Rattle.sheet.specs.declared.Entry.{Entry}
use Rattle.sheet.specs.Sheets.{with_estimate}

abbrev pub cleared : {C : Type 0} → Entry C → Entry C
cleared t = record { estimate = t.estimate; distance = Infinite; link = t.link; mark = false }

abbrev pub raised : {C : Type 0} → Kind C → Length C → Entry C → Entry C
raised K answer t = cond t.mark (with_estimate t (greater K t.estimate (remainder K answer t.distance))) t
