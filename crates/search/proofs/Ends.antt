-- From the last opening to the answer: the route by the links, and the estimates. Assumes nothing.
use Rattle.std.proofs.Common.{◌≡◌, ℕ, zero, suc, ◌+◌, ◌<◌, Bool, true, false, cond, List, [], ◌∷◌, length, get_or, sym, refl, ap, ◌∙◌, subst, ⊎_elim, arith, length-append}
use Rattle.std.proofs.lemmas.Bool.{cases_Bool, cond-true, cond-false}
use Rattle.cost.specs.Costs.{Kind, Laws, Positive}
use Rattle.cost.specs.Lengths.{Within, length_le, remainder, greater, origin}
use Rattle.routes.specs.Sites.{Meaning, Lawful}
use Rattle.routes.specs.Routes.{distance, step, Route, route_cost}
use Rattle.routes.specs.Estimates.{searched}
use Rattle.routes.specs.Counts.{count}
use Rattle.routes.specs.Loops.{Linked, Along, Outcome}
use Rattle.cost.specs.declared.lengths.Length.{Length}
use Rattle.cost.specs.declared.lengths.Length.TheVariants.{Finite}
use Rattle.cost.proofs.LengthLemmas.{sum_finite}
use Rattle.routes.proofs.Distances.{last, finite_route, last_append, distance_within}
use Rattle.routes.proofs.Links.{step_greater, push_found, along_append}
use Rattle.sheet.specs.declared.Entry.{Entry}
use Rattle.sheet.specs.Sheets.{blank, estimate_of, distance_of, link_of, mark_of}
use Rattle.search.specs.Exploring.{Explored}
use Rattle.search.specs.Passes.{cleared, raised}
use Rattle.sheet.specs.Sheets.{with_estimate}
use Rattle.search.specs.Trails.{walk, trail, LinksBack}
use Rattle.search.specs.Searches.{Told, Searched}

pub trail_length : (link : ℕ → ℕ) (k s : ℕ) → length (trail link k s) ≡ k
unfolding trail
trail_length link zero s = refl
trail_length link (suc k) s = let r = trail_length link k (link s) in omega (arith, length-append (trail link k (link s)) (s ∷ []))

keep : {C A : Type 0} (f : Entry C → A) (b : Bool) (x y : Entry C) → f x ≡ f y → f (cond b x y) ≡ f y
keep f true x y e = e
keep f false x y e = refl

-- after the sheet is cleared
module _ {C : Type 0} (before after : List (Entry C)) (clears : (s : ℕ) → get_or after s blank ≡ cleared (get_or before s blank)) where
  pub clear_estimates : estimate_of after ≡ estimate_of before
  clear_estimates = λ t. λ s. (clears s t).estimate

module _ {C : Type 0} {K : Kind C} (laws : Laws K) (positive : Positive K) {m : Meaning C} (lawful : Lawful K m) (start : ℕ) (first : start < m.places) where
  -- each link leads to a strictly nearer place
  pub links_lead : (sheet : List (Entry C)) (closed : ℕ → Bool) → Linked K m start (distance_of sheet) closed (link_of sheet) → length sheet ≡ m.places → LinksBack K sheet start
  links_lead sheet closed links long s led away =
      let g = distance_of sheet in
      let p = link_of sheet s in
      let c = led.1.0 in
      let e = led.1.1 in
      let l : s < m.places = omega (arith, long, led.0) in
      let through = links.cost s c l away e in
      let parts = sum_finite K (g p) (step K m p s) c (sym through ∙ e) in
      let nearer = step_greater laws positive lawful (g p) p s c (sym through ∙ e) in
      let place : p < length sheet = omega (arith, long, links.place s c l away e) in
      ((place, (parts.0, parts.2)), subst (λ d. length_le K d (g p) ≡ false) (sym through) nearer)

  module _ (g : ℕ → Length C) (closed : ℕ → Bool) (link : ℕ → ℕ) (z : g start ≡ origin K) (links : Linked K m start g closed link) where
    abbrev Traced : ℕ → ℕ → Type 0
    Traced k s = (last start (trail link k s) ≡ s) × (route_cost K m start (trail link k s) ≡ g s) × Along closed start (trail link k s)

    traced : (k s : ℕ) (c : C) → s < m.places → g s ≡ Finite c → walk link k s ≡ start → ((j : ℕ) → j < k → walk link j s ≡ start → ⊥) → Traced k s
    unfolding walk trail
    traced zero s c l e at others = (sym at, sym (ap g at ∙ z), tt)
    traced (suc k) s c l e at others =
        let away : s ≡ start → ⊥ = λ same. others 0 (omega arith) same in
        let through = links.cost s c l away e in
        let parts = sum_finite K (g (link s)) (step K m (link s) s) c (sym through ∙ e) in
        let ih = traced k (link s) parts.0 (links.place s c l away e) parts.2 at (λ j h. others (suc j) (omega arith)) in (
          last_append laws m start (trail link k (link s)) (s ∷ []),
          push_found laws m start g (link s) s (trail link k (link s)) ih.0 ih.1 through,
          along_append closed start (trail link k (link s)) s ih.2 (subst (λ p. closed p ≡ true) (sym ih.0) (links.from_marked s c l away e)),
        )

    pub traced_route : (k s : ℕ) (c : C) → s < m.places → g s ≡ Finite c → walk link k s ≡ start → ((j : ℕ) → j < k → walk link j s ≡ start → ⊥) → Route m start s (trail link k s) × (route_cost K m start (trail link k s) ≡ g s) × Along closed start (trail link k s)
    traced_route k s c l e at others =
        let found = traced k s c l e at others in
        (subst (λ t. Route m start t (trail link k s)) found.0 (finite_route laws m start (trail link k s) c (found.1 ∙ e)), found.1, found.2)

module _ {C : Type 0} {K : Kind C} (laws : Laws K) (positive : Positive K) {m : Meaning C} (lawful : Lawful K m) (start target : ℕ) (first : start < m.places) (end : target < m.places)
    (before : List (Entry C)) (e : ℕ → Length C) (same : e ≡ estimate_of before) (sheet after : List (Entry C)) (opened : ℕ) (explored : Explored K m start target e sheet opened) (long : length sheet ≡ m.places) where
  pub answer_within : Within K (distance_of sheet target)
  answer_within = subst (Within K) (sym explored.answer) (distance_within laws lawful start target)

  pub marked_within : (s : ℕ) → s < length sheet → mark_of sheet s ≡ true → Within K (distance_of sheet s)
  marked_within s l marked = subst (Within K) (sym (explored.outcome.distances s (omega (arith, long)) marked)) (distance_within laws lawful start s)

  module _ (answer : Length C) (is : answer ≡ distance_of sheet target) (raises : (s : ℕ) → get_or after s blank ≡ raised K answer (get_or sheet s blank))
      (list list' : List ℕ) (n : ℕ) (told : Told sheet start target list list' n) where
    up : ℕ → Entry C
    up s = with_estimate (get_or sheet s blank) (greater K (estimate_of sheet s) (remainder K answer (distance_of sheet s)))

    distances : distance_of after ≡ distance_of sheet
    unfolding up
    distances = λ t. λ s. (ap (λ (x : Entry C). x.distance) (raises s) ∙ keep (λ x. x.distance) (mark_of sheet s) (up s) (get_or sheet s blank) refl) t

    marks : mark_of after ≡ mark_of sheet
    unfolding up
    marks = λ t. λ s. (ap (λ (x : Entry C). x.mark) (raises s) ∙ keep (λ x. x.mark) (mark_of sheet s) (up s) (get_or sheet s blank) refl) t

    links : link_of after ≡ link_of sheet
    unfolding up
    links = λ t. λ s. (ap (λ (x : Entry C). x.link) (raises s) ∙ keep (λ x. x.link) (mark_of sheet s) (up s) (get_or sheet s blank) refl) t

    outcome : Outcome K m start target (estimate_of before) (distance_of sheet) (mark_of sheet) (link_of sheet)
    outcome = subst (λ v. Outcome K m start target v (distance_of sheet) (mark_of sheet) (link_of sheet)) same explored.outcome

    kept : (s : ℕ) → estimate_of sheet s ≡ estimate_of before s
    kept s = explored.estimates s ∙ (λ t. same t s)

    answered : answer ≡ distance K m start target
    answered = is ∙ explored.answer

    estimate : (s : ℕ) → s < m.places → estimate_of after s ≡ searched K m start target (estimate_of before) s
    unfolding up
    estimate s l = ap (λ (x : Entry C). x.estimate) (raises s) ∙ ⊎_elim
        (λ marked. ap (λ (x : Entry C). x.estimate) (cond-true (mark_of sheet s) (up s) (get_or sheet s blank) marked)
        ∙ (λ t. greater K (kept s t) (remainder K (answered t) (distance_of sheet s)))
        ∙ sym (outcome.raised s l marked))
        (λ left. ap (λ (x : Entry C). x.estimate) (cond-false (mark_of sheet s) (up s) (get_or sheet s blank) left) ∙ kept s ∙ sym (outcome.kept s l left))
        (cases_Bool (mark_of sheet s))

    pub searched_all : Searched K m start target before after list list' answer opened n
    searched_all = record {
      answered = answered;
      outcome = subst (λ g. Outcome K m start target (estimate_of before) g (mark_of after) (link_of after)) (sym distances)
          (subst (λ b. Outcome K m start target (estimate_of before) (distance_of sheet) b (link_of after)) (sym marks)
          (subst (λ k. Outcome K m start target (estimate_of before) (distance_of sheet) (mark_of sheet) k) (sym links) outcome));
      estimates = estimate;
      counted = explored.counted ∙ ap (λ b. count b m.places) (sym marks);
      route = λ c finite.
          let far : distance_of sheet target ≡ Finite c = sym is ∙ finite in
          let written = told.some c far in
          let k = written.links in
          let ps = trail (link_of sheet) k target in
          let found = traced_route laws positive lawful start first (distance_of sheet) (mark_of sheet) (link_of sheet) explored.at_start explored.linked k target c end far written.walked.here written.walked.others in
          (ps, written.placed, written.counted ∙ ap (λ j. j + 1) (sym (trail_length (link_of sheet) k target)), found.0, found.1 ∙ sym is, subst (λ b. Along b start ps) (sym marks) found.2);
      no_route = λ far. told.none (sym is ∙ far);
    }
