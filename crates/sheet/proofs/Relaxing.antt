-- The three ways in which a place is offered a distance. Assumes nothing.
use Rattle.std.proofs.Common.{◌≡◌, ℕ, ◌<◌, Bool, true, false, List, length, get_or, set, sym, refl, ap, ◌∙◌, subst, inl, inr, ⊎_elim}
use Rattle.std.proofs.lemmas.Bool.{cases_eq, cond-true, cond-false}
use Rattle.cost.specs.Costs.{Kind, Laws}
use Rattle.cost.specs.Lengths.{Within, length_le, sum}
use Rattle.cost.specs.declared.lengths.Length.{Length}
use Rattle.cost.specs.declared.lengths.Length.TheVariants.{Infinite}
use Rattle.cost.proofs.LengthLemmas.{at_most_of_not, sum_infinite, sum_left}
use Rattle.sheet.specs.Sheets.{blank, estimate_of, distance_of, sum_of, by_sum, HasSum, Summable, reached, Relaxed}
use Rattle.sheet.specs.declared.Entry.{Entry}
use Rattle.sheet.proofs.Improving.{put_others, put_here, still_keyed}
use Rattle.queue.specs.declared.Queue.{Queue}
use Rattle.queue.specs.Queues.{Ordered, Offered}
use Rattle.queue.proofs.Keys.{rekeyed}

module _ {C : Type 0} {K : Kind C} (laws : Laws K) (sheet : List (Entry C)) (p from : ℕ) (d : Length C) where
  pub relaxed_none : (q : Queue) → length_le K (distance_of sheet p) d ≡ true → Ordered (Summable K sheet) (by_sum K sheet) q → Relaxed K sheet sheet q q from p d
  relaxed_none q low ordered = record {
    others = λ y away. refl;
    estimate = refl;
    mark = refl;
    distance = sym (cond-true (length_le K (distance_of sheet p) d) (distance_of sheet p) d low);
    link = inl refl;
    same = record { name = refl; long = refl };
    ordered = ordered;
    old = λ y h. h;
    only = λ y h. inl h;
    new = inl refl;
  }

  -- what a test of the entry read says of the place's distance
  pub tested : (old : Entry C) → old ≡ get_or sheet p blank → (said answer : Bool) → said ≡ length_le K old.distance d → said ≡ answer → length_le K (distance_of sheet p) d ≡ answer
  tested old is said answer says was = sym (ap (λ (t : Entry C). length_le K t.distance d) is) ∙ sym says ∙ was

  module _ (listed : p < length sheet) (above : length_le K (distance_of sheet p) d ≡ false) where
    new_entry : Entry C
    new_entry = reached (get_or sheet p blank) d from

    -- the sum of the new entry is at most what it was
    pub lesser_sum : length_le K (sum K d (estimate_of sheet p)) (sum_of K sheet p) ≡ true
    lesser_sum = (sum_left laws (estimate_of sheet p) (at_most_of_not laws above)).holds

    pub relaxed_queued : (q r : Queue) → Offered (Summable K (set sheet p (reached (get_or sheet p blank) d from))) (by_sum K (set sheet p (reached (get_or sheet p blank) d from))) q r p → Relaxed K sheet (set sheet p (reached (get_or sheet p blank) d from)) q r from p d
    unfolding new_entry
    relaxed_queued q r offered =
        let at : get_or (set sheet p new_entry) p blank ≡ new_entry = put_here sheet p new_entry listed in
        record {
          others = put_others sheet p new_entry;
          estimate = ap (λ (t : Entry C). t.estimate) at;
          mark = ap (λ (t : Entry C). t.mark) at;
          distance = ap (λ (t : Entry C). t.distance) at ∙ sym (cond-false (length_le K (distance_of sheet p) d) (distance_of sheet p) d above);
          link = inr (ap (λ (t : Entry C). t.distance) at, ap (λ (t : Entry C). t.link) at);
          same = offered.same;
          ordered = offered.ordered;
          old = offered.old;
          only = λ y h. ⊎_elim (λ was. inl was) (λ same. inr (same, ap (λ (t : Entry C). length_le K (distance_of sheet p) t.distance) at ∙ above)) (offered.only y h);
          new = inr (inr offered.new);
        }

    -- a place whose estimate is infinite is not queued, and its sum stays
    module _ (far : estimate_of sheet p ≡ Infinite) (within : Within K d) (fine : Within K (estimate_of sheet p)) where
      sums : (x : ℕ) → sum_of K (set sheet p new_entry) x ≡ sum_of K sheet x
      unfolding new_entry
      sums x = ⊎_elim
          (λ (e : x ≡ p). subst (λ z. sum_of K (set sheet p new_entry) z ≡ sum_of K sheet z) (sym e)
          (ap (λ (t : Entry C). sum K t.distance t.estimate) (put_here sheet p new_entry listed)
          ∙ ap (λ (t : Length C). sum K d t) far ∙ sum_infinite laws d ∙ sym (ap (λ (t : Length C). sum K (distance_of sheet p) t) far ∙ sum_infinite laws (distance_of sheet p))))
          (λ (e : x ≡ p → ⊥). ap (λ (t : Entry C). sum K t.distance t.estimate) (put_others sheet p new_entry x e)) (cases_eq x p)

      readable : HasSum K new_entry
      unfolding new_entry
      readable = record { distance = within; estimate = fine }

      pub relaxed_far : (q : Queue) → Ordered (Summable K sheet) (by_sum K sheet) q → Relaxed K sheet (set sheet p (reached (get_or sheet p blank) d from)) q q from p d
      unfolding new_entry
      relaxed_far q ordered =
          let at : get_or (set sheet p new_entry) p blank ≡ new_entry = put_here sheet p new_entry listed in
          record {
            others = put_others sheet p new_entry;
            estimate = ap (λ (t : Entry C). t.estimate) at;
            mark = ap (λ (t : Entry C). t.mark) at;
            distance = ap (λ (t : Entry C). t.distance) at ∙ sym (cond-false (length_le K (distance_of sheet p) d) (distance_of sheet p) d above);
            link = inr (ap (λ (t : Entry C). t.distance) at, ap (λ (t : Entry C). t.link) at);
            same = record { name = refl; long = refl };
            ordered = rekeyed (Summable K sheet) (Summable K (set sheet p new_entry)) (by_sum K sheet) (by_sum K (set sheet p new_entry)) q
                (λ x _. still_keyed (HasSum K) sheet p new_entry listed readable x)
                (λ x y _ _. (λ t. length_le K (sums x t) (sums y t))) ordered;
            old = λ y h. h;
            only = λ y h. inl h;
            new = inr (inl (ap (λ (t : Entry C). t.estimate) at ∙ far));
          }
