-- One way more is relaxed. Assumes nothing.
use Rattle.std.proofs.Common.{◌≡◌, ℕ, ◌+◌, ◌<◌, ◌≤◌, true, false, eqb, ◌⊎◌, List, [], ◌∷◌, ◌++◌, length, get_or, take, Some, sym, refl, ap, ◌∙◌, subst, inl, inr, ⊎_elim, true≢false, arith}
use Rattle.std.proofs.lemmas.Bool.{cases_eq, cases_Bool, cond-true, cond-false, eq-eqb, ne_eqb}
use Rattle.cost.specs.Costs.{Kind, Laws}
use Rattle.cost.specs.Lengths.{AtMost, Within, length_le, sum, lesser, least}
use Rattle.routes.specs.Sites.{Meaning, Way, Lawful}
use Rattle.routes.specs.Routes.{way_to}
use Rattle.cost.specs.declared.lengths.Length.{Length}
use Rattle.cost.specs.declared.lengths.Length.TheVariants.{Infinite}
use Rattle.cost.proofs.LengthLemmas.{at_most_trans, at_most_antisym, at_most_of_eq, at_most_refl, at_most_infinite, lesser_left, lesser_right, le_lesser, lesser_of_le, lesser_assoc, sum_lesser, least_push}
use Rattle.sheet.specs.declared.Entry.{Entry}
use Rattle.sheet.specs.Sheets.{blank, estimate_of, distance_of, link_of, mark_of, Relaxed}
use Rattle.std.proofs.lemmas.List.{take_more, get_or_read}
use Rattle.queue.specs.declared.Queue.{Queue}
use Rattle.queue.specs.Queues.{places, Queued}
use Rattle.queue.proofs.Keys.{room}
use Rattle.site.specs.declared.Way.{Way as Exit}
use Rattle.site.specs.Questions.{WayAt}
use Rattle.site.proofs.WaysOut.{way_found}
use Rattle.search.specs.Exploring.{Improves, Swept}

module _ {C : Type 0} {K : Kind C} (laws : Laws K) (m : Meaning C) (x : ℕ) where
  -- above a length, so above what is less
  not_below : (a b c : Length C) → AtMost K b a → length_le K a c ≡ true → length_le K b c ≡ true
  not_below a b c low h = let p : AtMost K a c = record { holds = h } in (at_most_trans laws low p).holds

  pub above_lower : (a b c : Length C) → AtMost K b a → length_le K b c ≡ false → length_le K a c ≡ false
  above_lower a b c low h = ⊎_elim (λ t. absurd (true≢false (sym (not_below a b c low t) ∙ h))) (λ f. f) (cases_Bool (length_le K a c))

  below_lower : (a b c : Length C) → AtMost K c b → length_le K a b ≡ false → length_le K a c ≡ false
  below_lower a b c low h = ⊎_elim (λ t. absurd (true≢false (sym (let p : AtMost K a c = record { holds = t } in (at_most_trans laws p low).holds) ∙ h))) (λ f. f) (cases_Bool (length_le K a c))

  module _ (ws : List (ℕ × ℕ)) (u f : ℕ) (sheet mid after : List (Entry C)) (q r t : Queue)
      (swept : Swept K m x ws sheet mid q r) (relaxed : Relaxed K mid after r t x u (sum K (distance_of sheet x) (m.state f))) where
    abbrev d : Length C
    d = distance_of sheet x

    abbrev more : List (ℕ × ℕ)
    more = ws ++ ((u, f) ∷ [])

    abbrev through : ℕ → Length C
    through s = sum K (distance_of sheet x) (least K (way_to K m s) ws)

    -- the offer at the end of the way, and none elsewhere
    push_here : sum K d (least K (way_to K m u) more) ≡ lesser K (through u) (sum K d (m.state f))
    push_here = ap (sum K d) (least_push laws (way_to K m u) ws (u, f) ∙ ap (lesser K (least K (way_to K m u) ws)) (cond-true (eqb u u) (m.state f) Infinite (eq-eqb u u refl)))
        ∙ sum_lesser laws d (least K (way_to K m u) ws) (m.state f)

    push_other : (s : ℕ) → (s ≡ u → ⊥) → sum K d (least K (way_to K m s) more) ≡ through s
    push_other s away = ap (sum K d) (least_push laws (way_to K m s) ws (u, f) ∙ ap (lesser K (least K (way_to K m s) ws)) (cond-false (eqb u s) (m.state f) Infinite (ne_eqb u s (λ e. away (sym e))))
        ∙ lesser_of_le laws (at_most_infinite laws (least K (way_to K m s) ws)))

    same : (s : ℕ) → (s ≡ u → ⊥) → get_or after s blank ≡ get_or mid s blank
    same s away = relaxed.others s away

    by : (P : ℕ → Type 0) → P u → ((s : ℕ) → (s ≡ u → ⊥) → P s) → (s : ℕ) → P s
    by P here other s = ⊎_elim (λ (e : s ≡ u). subst P (sym e) here) (λ (e : s ≡ u → ⊥). other s e) (cases_eq s u)

    lower : (s : ℕ) → AtMost K (distance_of after s) (distance_of mid s)
    lower = by (λ s. AtMost K (distance_of after s) (distance_of mid s))
        (subst (λ v. AtMost K v (distance_of mid u)) (sym relaxed.distance) (lesser_left laws (distance_of mid u) (sum K d (m.state f))))
        (λ s away. at_most_of_eq laws (ap (λ (e : Entry C). e.distance) (same s away)))

    mid_low : (s : ℕ) → AtMost K (distance_of mid s) (distance_of sheet s)
    mid_low s = subst (λ v. AtMost K v (distance_of sheet s)) (sym (swept.distance s)) (lesser_left laws (distance_of sheet s) (through s))

    Link : ℕ → Type 0
    Link s = ((distance_of after s ≡ distance_of sheet s) × (link_of after s ≡ link_of sheet s)) ⊎ ((distance_of after s ≡ sum K d (least K (way_to K m s) more)) × (link_of after s ≡ x))

    -- what was offered last and taken is the least so far
    taken : distance_of after u ≡ sum K d (m.state f) → sum K d (m.state f) ≡ lesser K (through u) (sum K d (m.state f))
    taken is =
        let low : AtMost K (sum K d (m.state f)) (distance_of mid u) = subst (λ v. AtMost K v (distance_of mid u)) is (lower u) in
        let under : AtMost K (distance_of mid u) (through u) = subst (λ v. AtMost K v (through u)) (sym (swept.distance u)) (lesser_right laws (distance_of sheet u) (through u)) in
        at_most_antisym laws (le_lesser laws (at_most_trans laws low under) (at_most_refl laws (sum K d (m.state f)))) (lesser_right laws (through u) (sum K d (m.state f)))

    link_here : Link u
    unfolding Link
    link_here = ⊎_elim
        (λ stays. ⊎_elim
        (λ kept. inl (ap (λ (e : Entry C). e.distance) stays ∙ kept.0, ap (λ (e : Entry C). e.link) stays ∙ kept.1))
        (λ through_x. inr (relaxed.distance ∙ ap (λ v. lesser K v (sum K d (m.state f))) through_x.0 ∙ sym push_here, ap (λ (e : Entry C). e.link) stays ∙ through_x.1))
        (swept.link u))
        (λ now. inr (now.0 ∙ taken now.0 ∙ sym push_here, now.1))
        relaxed.link

    link_other : (s : ℕ) → (s ≡ u → ⊥) → Link s
    unfolding Link
    link_other s away =
        let far = ap (λ (e : Entry C). e.distance) (same s away) in
        let tie = ap (λ (e : Entry C). e.link) (same s away) in
        ⊎_elim (λ kept. inl (far ∙ kept.0, tie ∙ kept.1)) (λ now. inr (far ∙ now.0 ∙ sym (push_other s away), tie ∙ now.1)) (swept.link s)

    New : ℕ → Type 0
    New y = (distance_of after y ≡ distance_of sheet y) ⊎ ((estimate_of after y ≡ Infinite) ⊎ Queued t y)

    still_new : (y : ℕ) → get_or after y blank ≡ get_or mid y blank → New y
    unfolding New
    still_new y stays = ⊎_elim
        (λ kept. inl (ap (λ (e : Entry C). e.distance) stays ∙ kept))
        (λ now. inr (⊎_elim (λ far. inl (ap (λ (e : Entry C). e.estimate) stays ∙ far)) (λ queued. inr (relaxed.old y queued)) now))
        (swept.new y)

    new_here : New u
    unfolding New
    new_here = ⊎_elim (λ stays. still_new u stays) (λ now. inr now) relaxed.new

    pub swept_more : Swept K m x (ws ++ ((u, f) ∷ [])) sheet after q t
    unfolding Link New
    swept_more = record {
      distance = by (λ s. distance_of after s ≡ lesser K (distance_of sheet s) (sum K d (least K (way_to K m s) more)))
          (relaxed.distance ∙ ap (λ v. lesser K v (sum K d (m.state f))) (swept.distance u) ∙ lesser_assoc laws (distance_of sheet u) (through u) (sum K d (m.state f)) ∙ ap (lesser K (distance_of sheet u)) (sym push_here))
          (λ s away. ap (λ (e : Entry C). e.distance) (same s away) ∙ swept.distance s ∙ ap (lesser K (distance_of sheet s)) (sym (push_other s away)));
      link = by Link link_here link_other;
      estimate = by (λ s. estimate_of after s ≡ estimate_of sheet s) (relaxed.estimate ∙ swept.estimate u) (λ s away. ap (λ (e : Entry C). e.estimate) (same s away) ∙ swept.estimate s);
      mark = by (λ s. mark_of after s ≡ mark_of sheet s) (relaxed.mark ∙ swept.mark u) (λ s away. ap (λ (e : Entry C). e.mark) (same s away) ∙ swept.mark s);
      same = record { name = relaxed.same.name ∙ swept.same.name; long = relaxed.same.long ∙ swept.same.long };
      ordered = relaxed.ordered;
      old = λ y h. relaxed.old y (swept.old y h);
      only = λ y h. ⊎_elim
          (λ was. ⊎_elim (λ first. inl first) (λ fell. inr (below_lower (distance_of sheet y) (distance_of mid y) (distance_of after y) (lower y) fell)) (swept.only y was))
          (λ now. inr (subst (λ z. length_le K (distance_of sheet z) (distance_of after z) ≡ false) (sym now.0) (above_lower (distance_of sheet u) (distance_of mid u) (distance_of after u) (mid_low u) now.1)))
          (relaxed.only y h);
      new = by New new_here (λ y away. still_new y (same y away));
    }

-- a distance that was read, and what is offered by it
pub read_distance : {C : Type 0} (sheet : List (Entry C)) (p : ℕ) (old : Entry C) → p < length sheet → old ≡ get_or sheet p old → (get_or sheet p old).distance ≡ distance_of sheet p
read_distance sheet p old listed is = ap (λ e. e.distance) (sym is ∙ get_or_read sheet p old listed is blank)

pub offered_is : {C : Type 0} (K : Kind C) (sheet : List (Entry C)) (p : ℕ) (old : Entry C) (cost state d : Length C) → p < length sheet → old ≡ get_or sheet p old → cost ≡ state → d ≡ sum K (get_or sheet p old).distance cost → d ≡ sum K (distance_of sheet p) state
offered_is K sheet p old cost state d listed is same sums = sums ∙ (λ t. sum K (read_distance sheet p old listed is t) (same t))

-- the ways out of x in turn
module _ {C : Type 0} {K : Kind C} (laws : Laws K) {m : Meaning C} (lawful : Lawful K m) (x i : ℕ) (place : x < m.places) (w : Exit) (is : WayAt m x i (Some w)) where
  pub way_in : Way m x w.end w.segment
  way_in = way_found m x i w is

  pub end_place : w.end < m.places
  end_place = lawful.way_place x w.end w.segment way_in

  pub segment_there : w.segment < m.segments
  segment_there = lawful.way_segment x w.end w.segment way_in

  pub state_within : Within K (m.state w.segment)
  state_within = record {
    fits = λ c e.
        let one : K.within (K.add c K.zero) ≡ true = laws.segments_within (c ∷ []) (lawful.state_segment w.segment c segment_there e, tt) (omega arith) in
        subst (λ v. K.within v ≡ true) (laws.sum_commutative c K.zero ∙ laws.zero_neutral c) one;
  }

  module _ (sheet mid : List (Entry C)) (q r : Queue) (swept : Swept K m x (take i (m.ways x)) sheet mid q r) where
    pub swept_turn : (after : List (Entry C)) (t : Queue) → Relaxed K mid after r t x w.end (sum K (distance_of sheet x) (m.state w.segment)) → Swept K m x (take (i + 1) (m.ways x)) sheet after q t
    swept_turn after t relaxed =
        let all : take (i + 1) (m.ways x) ≡ take i (m.ways x) ++ ((w.end, w.segment) ∷ []) = take_more (m.ways x) i (0, 0) is.1 ∙ ap (λ e. take i (m.ways x) ++ (e ∷ [])) is.2 in
        subst (λ ws. Swept K m x ws sheet after q t) (sym all) (swept_more laws m x (take i (m.ways x)) w.end w.segment sheet mid after q r t swept relaxed)

    pub mid_lower : (s : ℕ) → AtMost K (distance_of mid s) (distance_of sheet s)
    mid_lower s = subst (λ v. AtMost K v (distance_of sheet s)) (sym (swept.distance s)) (lesser_left laws (distance_of sheet s) (sum K (distance_of sheet x) (least K (way_to K m s) (take i (m.ways x)))))

    pub next_within : Improves K m sheet x → length_le K (distance_of mid w.end) (sum K (distance_of sheet x) (m.state w.segment)) ≡ false → Within K (sum K (distance_of sheet x) (m.state w.segment))
    next_within improves above = improves w.end w.segment way_in (above_lower laws m x (distance_of sheet w.end) (distance_of mid w.end) (sum K (distance_of sheet x) (m.state w.segment)) (mid_lower w.end) above)

    pub next_estimate : ((s : ℕ) → s < m.places → Within K (estimate_of sheet s)) → Within K (estimate_of mid w.end)
    next_estimate estimates = subst (Within K) (sym (swept.estimate w.end)) (estimates w.end end_place)

    -- the queue has room for every place
    pub next_room : length mid ≡ m.places → m.places ≤ length q.places.now → (Queued r w.end → ⊥) → r.len < length r.places.now
    next_room long wide absent =
        let less : r.len < m.places = room m.places r.len w.end (places r) end_place absent swept.ordered.apart (λ j h. omega (arith, long, (swept.ordered.covered j h).listed)) in
        omega (arith, swept.same.long)
