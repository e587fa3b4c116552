use Rattle.std.proofs.Common.{◌≡◌, ◌<◌, length, get_or, refl, ap, ◌∙◌, subst, rules}
use Rattle.std.proofs.lemmas.List.{get_or_default}
use Rattle.cost.specs.declared.lengths.Length.TheVariants.{Finite}
use Rattle.cost.specs.Lengths.{Within, greater, remainder}
use Rattle.routes.specs.Estimates.{retargeted}
use Rattle.refusals.specs.declared.Refusal.TheVariants.{UnsoundSheet}
use Rattle.sheet.specs.Sheets.{blank, estimate_of}
use Rattle.planner.proofs.Standing.{told}
use Rattle.planner.proofs.Renewing.{filled_from}
use Rattle.planner.proofs.Planner.retarget.Goals as goal

pub renew-requires-clause-callable : goal.renew-requires-clause-callable
renew-requires-clause-callable g c =
    let K = g.S.Cost.Cost.kind in
    let m = g.S.Site.meaning c.args.self.now.site in
    let t = c.args.target in
    let before = c.args.sheet.now in
    let place : t < m.places = search rules in
    let listed : t < length before = search rules in
    let sound = told c.is_sound.result UnsoundSheet c.in_ok-ask-3.ensures c.is_sound.ensures in
    let there = subst (Within K) (ap (λ e. e.estimate) (get_or_default before t blank c.index-sheet-target.result listed)) (sound.within t place) in
    λ s inside. let here = sound.within s inside in search rules

pub returns-clause-after : goal.returns-clause-after
unfolding retargeted
returns-clause-after g c =
    let K = g.S.Cost.Cost.kind in
    let m = g.S.Site.meaning c.args.self.now.site in
    let t = c.args.target in
    let before = c.args.sheet.now in
    let read = c.index-sheet-target.result in
    let listed : t < length before = search rules in
    let there = ap (λ e. e.estimate) (get_or_default before t read blank listed) in (
      refl,
      search rules,
      filled_from _ (retargeted K m t (estimate_of before)) m.places before c.renew.new.sheet c.renew.ensures
          (λ s v inside called.
          let is : v ≡ greater K (Finite (m.hint s t)) (remainder K (estimate_of before s) (get_or before t read).estimate) = search rules in
          is ∙ ap (λ y. greater K (Finite (m.hint s t)) (remainder K (estimate_of before s) y)) there),
    )
