-- A sheet whose estimates are made anew, place by place. Assumes nothing.
use Rattle.std.proofs.Common.{◌≡◌, ℕ, ◌+◌, ◌<◌, List, length, get_or, set, sym, ◌∙◌, subst, ⊎_elim, arith}
use Rattle.std.proofs.lemmas.Bool.{cases_eq}
use Rattle.std.proofs.lemmas.List.{get_or_default}
use Rattle.cost.specs.declared.lengths.Length.{Length}
use Rattle.sheet.specs.declared.Entry.{Entry}
use Rattle.sheet.specs.Sheets.{blank, estimate_of, with_estimate, Filled}
use Rattle.sheet.proofs.Lowering.{kept_put, kept_trans, estimate_here, estimate_others}
use Rattle.planner.specs.Passes.{Renewed}

module _ {C : Type 0} (allows : ℕ → Length C → Type 0) (n : ℕ) (before after : List (Entry C)) (renewed : Renewed allows n before after) (listed : n < length after) where
  -- an entry that is not made anew yet
  pub ahead : (old : Entry C) → get_or after n old ≡ get_or before n blank
  ahead old = get_or_default after n old blank listed ∙ renewed.kept.beyond n (omega arith)

  -- one estimate more
  pub renewed_more : (old : Entry C) (v : Length C) → allows n v → Renewed allows (n + 1) before (set after n (with_estimate (get_or after n old) v))
  renewed_more old v allowed =
      subst (λ t. Renewed allows (n + 1) before (set after n (with_estimate t v))) (sym (get_or_default after n old blank listed))
      (record {
        estimates = λ s h. ⊎_elim
            (λ (d : s ≡ n). subst (λ j. allows j (estimate_of (set after n (with_estimate (get_or after n blank) v)) j)) (sym d) (subst (allows n) (sym (estimate_here after n (with_estimate (get_or after n blank) v) listed)) allowed))
            (λ (d : s ≡ n → ⊥). subst (allows s) (sym (estimate_others after n (with_estimate (get_or after n blank) v) s d)) (renewed.estimates s (omega arith))) (cases_eq s n);
        kept = kept_trans (record { long = renewed.kept.long; others = renewed.kept.others; beyond = λ j past. renewed.kept.beyond j (omega arith) }) (kept_put (n + 1) after n v listed (omega arith));
      })

-- where a relation allows one estimate at each place
pub filled_from : {C : Type 0} (allows : ℕ → Length C → Type 0) (e : ℕ → Length C) (n : ℕ) (before after : List (Entry C)) → Renewed allows n before after → ((s : ℕ) (v : Length C) → s < n → allows s v → v ≡ e s) → Filled e n before after
filled_from allows e n before after renewed only = record { estimates = λ s h. only s (estimate_of after s) h (renewed.estimates s h); kept = renewed.kept }
