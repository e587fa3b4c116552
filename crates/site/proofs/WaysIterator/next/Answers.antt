use Rattle.site.proofs.WaysWalked.{next_way}
use Rattle.site.proofs.WaysIterator.next.Goals as goal

pub returns-clause-steps : goal.returns-clause-steps
returns-clause-steps g c = next_way (g.S.Site.meaning c.args.self.now.site.now) c.args.self.now.place c.args.self.now.index c.in_ok-way.way c.in_ok-way.ensures
