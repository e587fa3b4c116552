-- Before the first opening the start alone has a distance. Assumes nothing.
use Rattle.std.proofs.Common.{◌≡◌, ℕ, ◌<◌, true, false, ◌⊎◌, List, sym, refl, ap, ◌∙◌, subst, inl, inr, ⊎_elim}
use mathlib.Core.Bool.{false≢true}
use Rattle.std.proofs.lemmas.Bool.{cases_eq}
use Rattle.cost.specs.Costs.{Kind, Laws}
use Rattle.cost.specs.Lengths.{sum, lesser, origin}
use Rattle.routes.specs.Sites.{Meaning, Lawful}
use Rattle.cost.specs.declared.lengths.Length.{Length}
use Rattle.cost.specs.declared.lengths.Length.TheVariants.{Finite, Infinite}
use Rattle.cost.proofs.LengthLemmas.{infinite_not_finite, sum_infinite}
use Rattle.routes.proofs.Search.{searching_start}
use Rattle.sheet.specs.declared.Entry.{Entry}
use Rattle.sheet.specs.Sheets.{estimate_of, distance_of, mark_of, sum_of, Relaxed}
use Rattle.queue.specs.declared.Queue.{Queue}
use Rattle.queue.specs.Queues.{Queued}
use Rattle.search.specs.Exploring.{Fresh, Exploring}
use Rattle.search.proofs.Exploration.{count_none}

module _ {C : Type 0} {K : Kind C} (sheet after : List (Entry C)) (q r : Queue) (from place : ℕ) (d : Length C) (relaxed : Relaxed K sheet after q r from place d) where
  by : (P : ℕ → Type 0) → P place → ((s : ℕ) → (s ≡ place → ⊥) → P s) → (s : ℕ) → P s
  by P here other s = ⊎_elim (λ (e : s ≡ place). subst P (sym e) here) (λ (e : s ≡ place → ⊥). other s e) (cases_eq s place)

  pub relaxed_marks : (s : ℕ) → mark_of after s ≡ mark_of sheet s
  relaxed_marks = by (λ s. mark_of after s ≡ mark_of sheet s) relaxed.mark (λ s away. ap (λ (t : Entry C). t.mark) (relaxed.others s away))

  relaxed_estimate : (s : ℕ) → estimate_of after s ≡ estimate_of sheet s
  relaxed_estimate = by (λ s. estimate_of after s ≡ estimate_of sheet s) relaxed.estimate (λ s away. ap (λ (t : Entry C). t.estimate) (relaxed.others s away))

  pub relaxed_estimates : estimate_of after ≡ estimate_of sheet
  relaxed_estimates = λ t. λ s. relaxed_estimate s t

module _ {C : Type 0} {K : Kind C} (laws : Laws K) {m : Meaning C} (lawful : Lawful K m) (start target : ℕ) (first : start < m.places)
    (sheet after : List (Entry C)) (q r : Queue) (fresh : Fresh sheet) (relaxed : Relaxed K sheet after q r start start (origin K)) where
  marks : (s : ℕ) → mark_of after s ≡ false
  marks s = relaxed_marks sheet after q r start start (origin K) relaxed s ∙ fresh.mark s

  at : distance_of after start ≡ origin K
  at = relaxed.distance ∙ ap (λ d. lesser K d (origin K)) (fresh.distance start)

  off : (s : ℕ) → (s ≡ start → ⊥) → distance_of after s ≡ Infinite
  off s away = ap (λ (t : Entry C). t.distance) (relaxed.others s away) ∙ fresh.distance s

  unmarked : {A : Type 0} (s : ℕ) → mark_of after s ≡ true → A
  unmarked s marked = absurd (false≢true (sym (marks s) ∙ marked))

  unlinked : {A : Type 0} (s : ℕ) (c : C) → (s ≡ start → ⊥) → distance_of after s ≡ Finite c → A
  unlinked s c away is = absurd (infinite_not_finite (sym (off s away) ∙ is))

  wait : (y : ℕ) → (y ≡ start) ⊎ (y ≡ start → ⊥) → (sum_of K after y ≡ Infinite) ⊎ Queued r y
  wait y (inr away) = inl (ap (λ d. sum K d (estimate_of after y)) (off y away))
  wait y (inl same) = subst (λ z. (sum_of K after z ≡ Infinite) ⊎ Queued r z) (sym same) (⊎_elim
      (λ stays. absurd (infinite_not_finite (sym (ap (λ (t : Entry C). t.distance) stays ∙ fresh.distance start) ∙ at)))
      (λ now. ⊎_elim (λ far. inl (ap (sum K (distance_of after start)) far ∙ sum_infinite laws (distance_of after start))) (λ queued. inr queued) now)
      relaxed.new)

  pub exploring_start : Exploring K m start target (estimate_of after) after r 0
  exploring_start = record {
    searching = searching_start laws lawful start first (distance_of after) (mark_of after) at (λ s l away. off s away) (λ s l. marks s);
    linked = record {
      place = λ s c l away is. unlinked s c away is;
      from_marked = λ s c l away is. unlinked s c away is;
      cost = λ s c l away is. unlinked s c away is;
    };
    opening = record {
      target_unmarked = marks target;
      at_most_answer = λ s l marked. unmarked s marked;
      finite = λ s l marked. unmarked s marked;
    };
    estimates = λ s. refl;
    ordered = relaxed.ordered;
    unopened = λ y _. marks y;
    waiting = λ y l o. wait y (cases_eq y start);
    counted = sym (count_none (mark_of after) m.places (λ y l. marks y));
  }
