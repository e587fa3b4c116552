use Rattle.std.proofs.Common.{◌≡◌, ◌+◌, ◌<◌, length, Some, sym, ap, ◌∙◌, subst, arith, rules}
use Rattle.sheet.specs.Sheets.{estimate_of}
use Rattle.site.proofs.Answering.{hint_there}
use Rattle.planner.specs.Passes.{Renewed}
use Rattle.planner.proofs.Renewing.{ahead, renewed_more}
use Rattle.planner.proofs.passes.renew.Goals as goal
use Rattle.planner.proofs.passes.renew.Goals.{in-Some, in_default}

pub offset_bounds-sheet-place : goal.offset_bounds-sheet-place
offset_bounds-sheet-place g c = let h : c.loop-place.place < length c.args.sheet.now = omega (arith, c.requires.room, c.places-place-end.ensures) in search rules

pub estimate-entry-requires : goal.estimate-entry-requires
estimate-entry-requires g c =
    let m = g.S.Site.meaning c.args.site.now in
    let place = c.loop-place.place in
    let target = c.args.target in
    let inside : place < m.places = omega (arith, c.places-place-end.ensures) in
    let got : c.hint.result ≡ Some (m.hint place target) = c.hint.ensures ∙ hint_there m place target inside c.requires.target in
    let hint : c.in-Some.hint ≡ m.hint place target = cc in
    let here = ap (λ t. t.estimate) (c.index-sheet-place.is ∙ ahead _ place c.args.sheet.now c.loop-place.sheet c.loop-place.invariant (omega (arith, c.requires.room, c.places-place-end.ensures, c.loop-place.auto.sheet)) c.index-sheet-place.result) in
    let called : goal.F-pre g c.args.estimate c.in-Some.hint c.index-sheet-place.result.estimate =
    subst (λ h. goal.F-pre g c.args.estimate h c.index-sheet-place.result.estimate) (sym hint)
    (subst (goal.F-pre g c.args.estimate (m.hint place target)) (sym here) (c.requires.callable place inside)) in
    search rules

pub loop-place-preserved : goal.loop-place-preserved
loop-place-preserved g c =
    let m = g.S.Site.meaning c.args.site.now in
    let place = c.loop-place.place in
    let target = c.args.target in
    let inside : place < m.places = omega (arith, c.places-place-end.ensures) in
    let got : c.hint.result ≡ Some (m.hint place target) = c.hint.ensures ∙ hint_there m place target inside c.requires.target in
    let listed : place < length c.loop-place.sheet = omega (arith, c.requires.room, c.places-place-end.ensures, c.loop-place.auto.sheet) in
    elim c.match-hint.branch [
      | in-Some w ↦
          let hint : w.in-Some.hint ≡ m.hint place target = cc in
          let here = ap (λ t. t.estimate) (ahead _ place c.args.sheet.now c.loop-place.sheet c.loop-place.invariant listed w.index-sheet-place.result) in
          let gives =
          subst (λ h. goal.F-post g c.args.estimate h (estimate_of c.args.sheet.now place) w.estimate-entry.result) hint
          (subst (λ x. goal.F-post g c.args.estimate w.in-Some.hint x w.estimate-entry.result) here w.estimate-entry.ensures) in
          subst (Renewed (λ s. goal.F-post g c.args.estimate (m.hint s target) (estimate_of c.args.sheet.now s)) (place + 1) c.args.sheet.now) (sym w.sheet-is)
          (renewed_more _ place c.args.sheet.now c.loop-place.sheet c.loop-place.invariant listed w.index-sheet-place.result w.estimate-entry.result gives)
      | in_default w ↦ absurd (w.in_default.not-Some _ got)
    ]
