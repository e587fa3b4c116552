-- One more place is opened; and the two ends. Assumes nothing.
use Rattle.std.proofs.Common.{◌≡◌, ℕ, zero, suc, ◌+◌, ◌<◌, Bool, true, false, cond, ◌⊎◌, List, length, sym, refl, ap, ◌∙◌, subst, inl, inr, ⊎_elim, true≢false, not-suc-le-zero, arith}
use Rattle.std.proofs.lemmas.Bool.{cases_eq, cases_Bool}
use Rattle.cost.specs.Costs.{Kind, Laws, Positive}
use Rattle.cost.specs.Lengths.{AtMost, length_le, sum, lesser}
use Rattle.routes.specs.Sites.{Meaning, Lawful}
use Rattle.routes.specs.Routes.{distance, step}
use Rattle.routes.specs.Estimates.{Sound}
use Rattle.routes.specs.Counts.{count}
use Rattle.routes.specs.Loops.{Searching, Least, Expands, Relinks}
use Rattle.cost.specs.declared.lengths.Length.{Length}
use Rattle.cost.specs.declared.lengths.Length.TheVariants.{Finite, Infinite}
use Rattle.cost.proofs.LengthLemmas.{at_most_trans, at_most_of_eq, at_most_infinite, sum_origin, sum_infinite, last_or_below}
use Rattle.cost.proofs.LengthLemmas.{length_cases}
use Rattle.routes.proofs.Search.{least_final, target_final, none_left, searching_turn}
use Rattle.routes.proofs.Counts.{count_strict, count_all}
use Rattle.routes.proofs.Links.{links_turn}
use Rattle.routes.proofs.Outcomes.{opening_turn, outcome_found, outcome_none}
use Rattle.sheet.specs.declared.Entry.{Entry}
use Rattle.sheet.specs.Sheets.{distance_of, link_of, mark_of, sum_of, by_sum, Summable}
use Rattle.queue.specs.declared.Queue.{Queue}
use Rattle.queue.specs.Queues.{Queued, Popped}
use Rattle.search.specs.Exploring.{Improves, Swept, mark_place, Exploring, Explored}
use Rattle.search.proofs.Marks.{mark_distance, mark_estimate, mark_link, mark_here, mark_other}
use Rattle.search.proofs.Ceilings.{found_within}

one : {b : Bool} → b ≡ true → ◌≡◌ {A = ℕ} (cond b 1 0) 1
one e = rw e

none : {b : Bool} → b ≡ false → ◌≡◌ {A = ℕ} (cond b 1 0) 0
none e = rw e

pub count_same : (p q : ℕ → Bool) (n : ℕ) → ((y : ℕ) → y < n → q y ≡ p y) → count q n ≡ count p n
unfolding count
count_same p q zero h = refl
count_same p q (suc n) h = let r = count_same p q n (λ y l. h y (omega arith)) in omega (arith, ap {B = ℕ} (λ b. cond b 1 0) (h n (omega arith)))

-- one more passes
pub count_more : (p q : ℕ → Bool) (n x : ℕ) → x < n → p x ≡ false → q x ≡ true → ((y : ℕ) → (y ≡ x → ⊥) → q y ≡ p y) → count q n ≡ count p n + 1
unfolding count
count_more p q zero x l a b h = absurd (not-suc-le-zero l)
count_more p q (suc n) x l a b h = go (λ k. count_more p q n x k a b h) (last_or_below n x l)
  where
    go : (x < n → count q n ≡ count p n + 1) → (x ≡ n) ⊎ (x < n) → count q (suc n) ≡ count p (suc n) + 1
    go ih (inl e) =
        let r = count_same p q n (λ y k. h y (λ s. omega arith)) in
        omega (arith, none (subst (λ y. p y ≡ false) e a), one (subst (λ y. q y ≡ true) e b))
    go ih (inr k) = let r = ih k in omega (arith, ap {B = ℕ} (λ b. cond b 1 0) (h n (λ s. omega arith)))

pub count_none : (p : ℕ → Bool) (n : ℕ) → ((y : ℕ) → y < n → p y ≡ false) → count p n ≡ 0
unfolding count
count_none p zero h = refl
count_none p (suc n) h = let r = count_none p n (λ y l. h y (omega arith)) in omega (arith, none (h n (omega arith)))

module _ {C : Type 0} {K : Kind C} (laws : Laws K) (positive : Positive K) {m : Meaning C} (lawful : Lawful K m) (start target : ℕ) (first : start < m.places) (end : target < m.places)
    (e : ℕ → Length C) (sound : Sound K m target e) (sheet : List (Entry C)) (q : Queue) (opened : ℕ) (inv : Exploring K m start target e sheet q opened) (long : length sheet ≡ m.places) where
  sum_e : (y : ℕ) → sum K (distance_of sheet y) (e y) ≡ sum_of K sheet y
  sum_e y = ap (sum K (distance_of sheet y)) (sym (inv.estimates y))

  -- no place is queued
  pub explored_none : q.len ≡ 0 → Explored K m start target e sheet opened
  explored_none empty =
      let nothing : (y : ℕ) → y < m.places → mark_of sheet y ≡ false → sum K (distance_of sheet y) (e y) ≡ Infinite =
      λ y l o. ⊎_elim (λ far. sum_e y ∙ far) (λ queued. absurd (let z = queued.1 in omega arith)) (inv.waiting y l o) in
      let far = none_left laws lawful start first e sound.consistent (distance_of sheet) (mark_of sheet) inv.searching target sound.target_zero end inv.opening.target_unmarked nothing in
      let reached : distance_of sheet target ≡ Infinite = sym (ap (sum K (distance_of sheet target)) sound.target_zero ∙ sum_origin laws (distance_of sheet target)) ∙ nothing target end inv.opening.target_unmarked in
      record {
        outcome = outcome_none laws positive lawful start target first end e sound (distance_of sheet) (mark_of sheet) (link_of sheet) inv.searching inv.linked inv.opening nothing;
        answer = reached ∙ sym far;
        at_start = inv.searching.at_start;
        linked = inv.linked;
        estimates = inv.estimates;
        counted = inv.counted;
      }

  module _ (r : Queue) (x : ℕ) (popped : Popped (Summable K sheet) (by_sum K sheet) q r x) where
    pub place : x < m.places
    place = omega (arith, long, popped.covered.listed)

    unclosed : mark_of sheet x ≡ false
    unclosed = inv.unopened x popped.was

    under : (y : ℕ) → y < m.places → mark_of sheet y ≡ false → AtMost K (sum_of K sheet x) (sum_of K sheet y)
    under y l o = ⊎_elim (λ far. subst (AtMost K (sum_of K sheet x)) (sym far) (at_most_infinite laws (sum_of K sheet x))) (λ queued. record { holds = popped.least y queued }) (inv.waiting y l o)

    least : Least K m e (distance_of sheet) (mark_of sheet) x
    least = record {
      place = place;
      unmarked = unclosed;
      minimal = λ y l o. subst (λ a. AtMost K a (sum K (distance_of sheet y) (e y))) (sym (sum_e x)) (subst (AtMost K (sum_of K sheet x)) (sym (sum_e y)) (under y l o));
    }

    -- the target's distance is not above the least sum
    pub explored_found : length_le K (distance_of sheet target) (sum_of K sheet x) ≡ true → Explored K m start target e sheet opened
    explored_found settled =
        let low : AtMost K (distance_of sheet target) (sum_of K sheet x) = record { holds = settled } in
        let own : sum K (distance_of sheet target) (e target) ≡ distance_of sheet target = ap (sum K (distance_of sheet target)) sound.target_zero ∙ sum_origin laws (distance_of sheet target) in
        let best : Least K m e (distance_of sheet) (mark_of sheet) target = record {
          place = end;
          unmarked = inv.opening.target_unmarked;
          minimal = λ y l o. subst (λ a. AtMost K a (sum K (distance_of sheet y) (e y))) (sym own) (subst (AtMost K (distance_of sheet target)) (sym (sum_e y)) (at_most_trans laws low (under y l o)));
        } in
        record {
          outcome = outcome_found laws positive lawful start target first end e sound (distance_of sheet) (mark_of sheet) (link_of sheet) inv.searching inv.linked inv.opening best;
          answer = target_final laws lawful start first e sound.consistent (distance_of sheet) (mark_of sheet) inv.searching target sound.target_zero best;
          at_start = inv.searching.at_start;
          linked = inv.linked;
          estimates = inv.estimates;
          counted = inv.counted;
        }

    pub opened_few : opened < m.places
    opened_few = omega (arith, inv.counted, count_strict (mark_of sheet) (λ _. true) m.places x place (λ _ _. refl) unclosed refl, count_all m.places)

    -- otherwise it is opened
    module _ (unsettled : length_le K (distance_of sheet target) (sum_of K sheet x) ≡ false) where
      other : x ≡ target → ⊥
      other same =
          let own : sum_of K sheet target ≡ distance_of sheet target = sym (sum_e target) ∙ ap (sum K (distance_of sheet target)) sound.target_zero ∙ sum_origin laws (distance_of sheet target) in
          true≢false (sym (subst (λ y. AtMost K (distance_of sheet target) (sum_of K sheet y)) (sym same) (at_most_of_eq laws (sym own))).holds ∙ unsettled)

      finite : (c : C) × (sum K (distance_of sheet x) (e x) ≡ Finite c)
      finite = ⊎_elim
          (λ far. absurd (true≢false (sym (subst (AtMost K (distance_of sheet target)) (sym (sym (sum_e x) ∙ far)) (at_most_infinite laws (distance_of sheet target))).holds ∙ unsettled)))
          (λ h. h) (length_cases (sum K (distance_of sheet x) (e x)))

      final : distance_of sheet x ≡ distance K m start x
      final = least_final laws lawful start first e sound.consistent (distance_of sheet) (mark_of sheet) inv.searching x finite.0 least finite.1

      pub improving : Improves K m sheet x
      improving = λ u f way above. found_within laws positive lawful start first (distance_of sheet) (mark_of sheet) (link_of sheet) inv.searching inv.linked x place u f way above

      module _ (after : List (Entry C)) (t : Queue) (swept : Swept K m x (m.ways x) (mark_place sheet x) after r t) (long' : length after ≡ m.places) where
        listed : x < length sheet
        listed = popped.covered.listed

        mark_x : mark_of after x ≡ true
        mark_x = swept.mark x ∙ mark_here sheet x listed

        mark_y : (y : ℕ) → (y ≡ x → ⊥) → mark_of after y ≡ mark_of sheet y
        mark_y y away = swept.mark y ∙ mark_other sheet x listed y away

        through : (s : ℕ) → sum K (distance_of (mark_place sheet x) x) (step K m x s) ≡ sum K (distance_of sheet x) (step K m x s)
        through s = ap (λ d. sum K d (step K m x s)) (mark_distance sheet x listed x)

        expands : Expands K m x (distance_of sheet) (distance_of after) (mark_of sheet) (mark_of after)
        unfolding step
        expands = record {
          lowered = λ s l. swept.distance s ∙ (λ j. lesser K (mark_distance sheet x listed s j) (through s j));
          marks = λ s l marked. ⊎_elim (λ (same : s ≡ x). inl same) (λ (away : s ≡ x → ⊥). inr (sym (mark_y s away) ∙ marked)) (cases_eq s x);
          marked_now = mark_x;
          stays = λ s l marked. ⊎_elim (λ (same : s ≡ x). subst (λ y. mark_of after y ≡ true) (sym same) mark_x) (λ (away : s ≡ x → ⊥). mark_y s away ∙ marked) (cases_eq s x);
        }

        relinks : Relinks K m x (distance_of sheet) (distance_of after) (link_of sheet) (link_of after)
        unfolding step
        relinks = record {
          either = λ s l. ⊎_elim
              (λ kept. inl (kept.0 ∙ mark_distance sheet x listed s, kept.1 ∙ mark_link sheet x listed s))
              (λ now. inr (now.0 ∙ through s, now.1)) (swept.link s);
        }

        searched : Searching K m start (distance_of after) (mark_of after)
        searched = searching_turn laws lawful start first (distance_of sheet) (distance_of after) (mark_of sheet) (mark_of after) x place final inv.searching expands

        -- a place that was lowered is not opened
        lowered_open : (y : ℕ) → y < m.places → length_le K (distance_of sheet y) (distance_of after y) ≡ false → mark_of after y ≡ false
        lowered_open y l fell = ⊎_elim
            (λ marked.
            let now = searched.final y l marked in
            let was : distance_of sheet y ≡ distance K m start y = ⊎_elim
            (λ (same : y ≡ x). subst (λ z. distance_of sheet z ≡ distance K m start z) (sym same) final)
            (λ old. inv.searching.final y l old) (expands.marks y l marked) in
            absurd (true≢false (sym (at_most_of_eq laws (was ∙ sym now)).holds ∙ fell)))
            (λ h. h) (cases_Bool (mark_of after y))

        queued_open : (y : ℕ) → Queued t y → mark_of after y ≡ false
        queued_open y queued = ⊎_elim
            (λ was. mark_y y (λ same. popped.gone (subst (Queued r) same was)) ∙ inv.unopened y (popped.only y was))
            (λ fell. lowered_open y
            (let z = (swept.ordered.covered queued.0 queued.1).listed in subst (λ v. v < m.places) queued.2 (omega (arith, long', z)))
            (sym (ap (λ d. length_le K d (distance_of after y)) (mark_distance sheet x listed y)) ∙ fell))
            (swept.only y queued)

        still_waiting : (y : ℕ) → y < m.places → mark_of after y ≡ false → (sum_of K after y ≡ Infinite) ⊎ Queued t y
        still_waiting y l o =
            let away : y ≡ x → ⊥ = λ same. true≢false (sym (subst (λ z. mark_of after z ≡ true) (sym same) mark_x) ∙ o) in
            ⊎_elim
            (λ kept. ⊎_elim
            (λ far. inl ((λ j. sum K ((kept ∙ mark_distance sheet x listed y) j) ((swept.estimate y ∙ mark_estimate sheet x listed y) j)) ∙ far))
            (λ was. inr (swept.old y (popped.old y was away)))
            (inv.waiting y l (sym (mark_y y away) ∙ o)))
            (λ now. ⊎_elim (λ far. inl (ap (sum K (distance_of after y)) far ∙ sum_infinite laws (distance_of after y))) (λ queued. inr queued) now)
            (swept.new y)

        pub exploring_turn : Exploring K m start target e after t (opened + 1)
        exploring_turn = record {
          searching = searched;
          linked = links_turn laws lawful start first (distance_of sheet) (distance_of after) (mark_of sheet) (mark_of after) (link_of sheet) (link_of after) x place final inv.searching expands inv.linked relinks;
          opening = opening_turn laws lawful start target first end e sound (distance_of sheet) (distance_of after) (mark_of sheet) (mark_of after) x finite.0 inv.searching least finite.1 other expands inv.opening;
          estimates = λ s. swept.estimate s ∙ mark_estimate sheet x listed s ∙ inv.estimates s;
          ordered = swept.ordered;
          unopened = queued_open;
          waiting = still_waiting;
          counted = omega (arith, inv.counted, count_more (mark_of sheet) (mark_of after) m.places x place unclosed mark_x mark_y);
        }
