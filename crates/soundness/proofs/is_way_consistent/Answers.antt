use Rattle.std.proofs.Common.{sym, ap, subst}
use Rattle.cost.specs.Lengths.{Within}
use Rattle.std.proofs.lemmas.List.{get_or_default}
use Rattle.sheet.specs.Sheets.{blank}
use Rattle.site.proofs.WaysOut.{state_within}
use Rattle.soundness.proofs.is_way_consistent.Goals as goal

pub plus-requires : goal.plus-requires
plus-requires g c =
    let K = g.S.Cost.Cost.kind in
    let m = g.S.Site.meaning c.args.site.now in
    let sheet = c.args.sheet.now in (
      subst (Within K) (sym c.cost_over.ensures) (state_within g.met.S.Cost.Cost.lawful m (g.met.S.Site.lawful c.args.site.now) c.args.way.segment c.requires.segment),
      subst (Within K) (ap (λ t. t.estimate) (get_or_default sheet c.args.way.end blank _ c.requires.listed.1)) c.requires.within,
    )
