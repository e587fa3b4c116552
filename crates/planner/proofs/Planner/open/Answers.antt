use Rattle.std.proofs.Common.{refl, rules}
use Rattle.routes.specs.Estimates.{opened}
use Rattle.planner.proofs.Renewing.{filled_from}
use Rattle.planner.proofs.Planner.open.Goals as goal

pub returns-clause-after : goal.returns-clause-after
returns-clause-after g c =
    let m = g.S.Site.meaning c.args.self.now.site in
    (refl, refl, filled_from _ (opened g.S.Cost.Cost.kind m c.args.target) m.places c.args.sheet.now c.renew.new.sheet c.renew.ensures (λ s v inside called. search rules))
