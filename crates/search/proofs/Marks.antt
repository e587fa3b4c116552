-- A mark leaves the distances, the estimates, the links and the queue. Assumes nothing.
use Rattle.std.proofs.Common.{◌≡◌, ℕ, ◌<◌, true, List, length, get_or, set, sym, ap, ◌∙◌, subst, ⊎_elim, arith, length-set, get_or-set_other, get_or-set_same}
use Rattle.std.proofs.lemmas.List.{get_or_read}
use Rattle.std.proofs.lemmas.Bool.{cases_eq}
use Rattle.cost.specs.Costs.{Kind}
use Rattle.cost.specs.Lengths.{Within, length_le, sum}
use Rattle.routes.specs.Sites.{Meaning}
use Rattle.sheet.specs.declared.Entry.{Entry}
use Rattle.sheet.specs.Sheets.{blank, estimate_of, distance_of, link_of, mark_of, sum_of, by_sum, Summable}
use Rattle.queue.specs.declared.Queue.{Queue}
use Rattle.queue.proofs.Keys.{rekeyed}
use Rattle.search.specs.Exploring.{Ready, with_mark, mark_place}

pub mark_written : {C : Type 0} (sheet : List (Entry C)) (p : ℕ) (old : Entry C) → p < length sheet → old ≡ get_or sheet p old → set sheet p (with_mark (get_or sheet p old)) ≡ mark_place sheet p
mark_written sheet p old listed is = ap (λ t. set sheet p (with_mark t)) (sym is ∙ get_or_read sheet p old listed is blank)

module _ {C : Type 0} (sheet : List (Entry C)) (p : ℕ) (listed : p < length sheet) where
  at : get_or (mark_place sheet p) p blank ≡ with_mark (get_or sheet p blank)
  at = get_or-set_same sheet p (with_mark (get_or sheet p blank)) blank listed

  off : (s : ℕ) → (s ≡ p → ⊥) → get_or (mark_place sheet p) s blank ≡ get_or sheet s blank
  off s away = get_or-set_other sheet p s (with_mark (get_or sheet p blank)) blank away

  by : (P : ℕ → Type 0) → P p → ((s : ℕ) → (s ≡ p → ⊥) → P s) → (s : ℕ) → P s
  by P here other s = ⊎_elim (λ (e : s ≡ p). subst P (sym e) here) (λ (e : s ≡ p → ⊥). other s e) (cases_eq s p)

  pub mark_distance : (s : ℕ) → distance_of (mark_place sheet p) s ≡ distance_of sheet s
  mark_distance = by (λ s. distance_of (mark_place sheet p) s ≡ distance_of sheet s) (ap (λ (t : Entry C). t.distance) at) (λ s away. ap (λ (t : Entry C). t.distance) (off s away))

  pub mark_estimate : (s : ℕ) → estimate_of (mark_place sheet p) s ≡ estimate_of sheet s
  mark_estimate = by (λ s. estimate_of (mark_place sheet p) s ≡ estimate_of sheet s) (ap (λ (t : Entry C). t.estimate) at) (λ s away. ap (λ (t : Entry C). t.estimate) (off s away))

  pub mark_link : (s : ℕ) → link_of (mark_place sheet p) s ≡ link_of sheet s
  mark_link = by (λ s. link_of (mark_place sheet p) s ≡ link_of sheet s) (ap (λ (t : Entry C). t.link) at) (λ s away. ap (λ (t : Entry C). t.link) (off s away))

  pub mark_here : mark_of (mark_place sheet p) p ≡ true
  mark_here = ap (λ (t : Entry C). t.mark) at

  pub mark_other : (s : ℕ) → (s ≡ p → ⊥) → mark_of (mark_place sheet p) s ≡ mark_of sheet s
  mark_other s away = ap (λ (t : Entry C). t.mark) (off s away)

  module _ (K : Kind C) (m : Meaning C) where
    mark_sum : (s : ℕ) → sum_of K (mark_place sheet p) s ≡ sum_of K sheet s
    mark_sum s = λ t. sum K (mark_distance s t) (mark_estimate s t)

    pub mark_ready : (q : Queue) → Ready K m sheet q → Ready K m (mark_place sheet p) q
    mark_ready q ready = record {
      long = length-set sheet p (with_mark (get_or sheet p blank)) ∙ ready.long;
      room = ready.room;
      estimates = λ s l. subst (Within K) (sym (mark_estimate s)) (ready.estimates s l);
      ordered = rekeyed (Summable K sheet) (Summable K (mark_place sheet p)) (by_sum K sheet) (by_sum K (mark_place sheet p)) q
          (λ x _ h. record {
            listed = omega (arith, length-set sheet p (with_mark (get_or sheet p blank)), h.listed);
            readable = record {
              distance = subst (Within K) (sym (mark_distance x)) h.readable.distance;
              estimate = subst (Within K) (sym (mark_estimate x)) h.readable.estimate;
            };
          })
          (λ x y _ _. (λ t. length_le K (mark_sum x t) (mark_sum y t))) ready.ordered;
    }
