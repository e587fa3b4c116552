use Rattle.std.proofs.Common.{◌≡◌, ℕ, sym, ap, ◌∙◌, subst, true≢false, arith, rules}
use Rattle.std.specs.declared.ops.Range.{Range}
use Rattle.std.proofs.lemmas.Iterator.{cases_from_all, YieldsList-from_range}
use Rattle.routes.specs.Estimates.{Sound}
use Rattle.sheet.specs.Sheets.{estimate_of}
use Rattle.soundness.specs.Checks.{Tells, AllWithin, ConsistentFrom}
use Rattle.soundness.proofs.Checking.{told, told_not, zero_asked, zero_tells, sound_told}
use Rattle.soundness.proofs.is_sound.Goals as goal
use Rattle.soundness.proofs.is_sound.Goals.{then-is_at_most, else-is_at_most}

pub returns-then-are_within : goal.returns-then-are_within
returns-then-are_within g c =
    let K = g.S.Cost.Cost.kind in
    let m = g.S.Site.meaning c.args.site.now in
    let sheet = c.args.sheet.now in
    let t = c.args.target in
    let zero = zero_asked g.met.S.Cost.Cost.lawful sheet t c.index-sheet-target.result (omega (arith, c.requires.target, c.requires.room)) c.is_at_most.ensures c.zero.ensures in
    let count = c.places-places.ensures in
    let range : ◌≡◌ {A = Range ℕ} (record { start = 0; end = c.places-places.result }) (record { start = 0; end = m.places }) = ap (λ n. record { start = 0; end = n }) count in
    let met = cases_from_all c.all.new.self _ c.all.result (ConsistentFrom K m sheet) (λ s. ConsistentFrom K m sheet s → ⊥) c.all.ensures.ran (YieldsList-from_range 0 m.places m.places range (omega arith)) (λ x q k. search rules) (λ x q k. search rules) in
    elim c.if-is_at_most.branch [
      | then-is_at_most w ↦
          let within = told (sym w.value-is ∙ c.if-are_within.true) w.are_within.ensures in
          sound_told g.met.S.Cost.Cost.lawful m t sheet (zero ∙ w.if-is_at_most.true) (subst (λ n. AllWithin K n sheet) count within) c.all.result met
      | else-is_at_most w ↦ absurd (true≢false (sym c.if-are_within.true ∙ w.value-is ∙ w.if-is_at_most.false))
    ]

pub returns-else-are_within : goal.returns-else-are_within
returns-else-are_within g c =
    let K = g.S.Cost.Cost.kind in
    let m = g.S.Site.meaning c.args.site.now in
    let sheet = c.args.sheet.now in
    let t = c.args.target in
    let zero = zero_asked g.met.S.Cost.Cost.lawful sheet t c.index-sheet-target.result (omega (arith, c.requires.target, c.requires.room)) c.is_at_most.ensures c.zero.ensures in
    subst (λ b. Tells b (Sound K m t (estimate_of sheet))) (sym c.if-are_within.false)
    (λ (sound : Sound K m t (estimate_of sheet)). elim c.if-is_at_most.branch [
      | then-is_at_most w ↦ told_not (sym w.value-is ∙ c.if-are_within.false) w.are_within.ensures (subst (λ n. AllWithin K n sheet) (sym c.places-places.ensures) sound.within)
      | else-is_at_most w ↦ true≢false (sym (zero_tells g.met.S.Cost.Cost.lawful (estimate_of sheet t) sound.target_zero) ∙ zero ∙ w.if-is_at_most.false)
    ])
