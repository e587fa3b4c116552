-- A sheet in which the estimate of one place was written. Assumes nothing.
use Rattle.std.proofs.Common.{◌≡◌, ℕ, ◌<◌, List, length, get_or, set, sym, ap, ◌∙◌, subst, ⊎_elim, arith, length-set}
use Rattle.std.proofs.lemmas.Bool.{cases_eq}
use Rattle.cost.specs.declared.lengths.Length.{Length}
use Rattle.sheet.specs.declared.Entry.{Entry}
use Rattle.sheet.specs.Sheets.{blank, estimate_of, with_estimate, Kept}
use Rattle.sheet.proofs.Improving.{put_others, put_here}

module _ {C : Type 0} (sheet : List (Entry C)) (p : ℕ) (e : Entry C) where
  pub estimate_others : (x : ℕ) → (x ≡ p → ⊥) → estimate_of (set sheet p e) x ≡ estimate_of sheet x
  estimate_others x away = ap (λ (t : Entry C). t.estimate) (put_others sheet p e x away)

  pub estimate_here : p < length sheet → estimate_of (set sheet p e) p ≡ e.estimate
  estimate_here inside = ap (λ (t : Entry C). t.estimate) (put_here sheet p e inside)

module _ {C : Type 0} where
  pub kept_put : (n : ℕ) (sheet : List (Entry C)) (p : ℕ) (v : Length C) → p < length sheet → p < n → Kept n sheet (set sheet p (with_estimate (get_or sheet p blank) v))
  kept_put n sheet p v inside place =
      let e = with_estimate (get_or sheet p blank) v in
      record {
        long = length-set sheet p e;
        others = λ k. ⊎_elim
            (λ (d : k ≡ p). subst (λ j. get_or (set sheet p e) j blank ≡ with_estimate (get_or sheet j blank) (estimate_of (set sheet p e) j)) (sym d)
            (put_here sheet p e inside ∙ ap (with_estimate (get_or sheet p blank)) (sym (estimate_here sheet p e inside))))
            (λ (d : k ≡ p → ⊥). put_others sheet p e k d ∙ ap (with_estimate (get_or sheet k blank)) (sym (estimate_others sheet p e k d))) (cases_eq k p);
        beyond = λ k h. put_others sheet p e k (λ d. omega arith);
      }

  pub kept_trans : {n : ℕ} {a b c : List (Entry C)} → Kept n a b → Kept n b c → Kept n a c
  kept_trans {n} {a} {b} {c} first second = record {
    long = second.long ∙ first.long;
    others = λ k. second.others k ∙ ap (λ t. with_estimate t (estimate_of c k)) (first.others k);
    beyond = λ k h. second.beyond k h ∙ first.beyond k h;
  }
