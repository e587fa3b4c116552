-- The search with consistent estimates: what is taken has its distance, and the end has the answer.
use mathlib.Core.Path.{◌≡◌, sym, ap, subst, ◌∙◌}
use mathlib.Core.Bool.{Bool, true, false, false≢true}
use mathlib.Core.Logic.{◌⊎◌, inl, inr, ⊎_elim}
use mathlib.Core.List.{List, [], ◌∷◌}
use Prim.Native.Nat.{ℕ, ◌<◌}
use native.Mathlib.Decide.{ℕ_discrete}
use Rattle.cost.specs.declared.lengths.Length.{Length}
use Rattle.cost.specs.declared.lengths.Length.TheVariants.{Finite, Infinite}
use Rattle.cost.specs.Costs.{Kind, Laws}
use Rattle.cost.specs.Lengths.{AtMost, sum, remainder, origin}
use Rattle.routes.specs.Sites.{Meaning, Way, Lawful}
use Rattle.routes.specs.Routes.{step, route_cost, distance}
use Rattle.routes.specs.Estimates.{Consistent, searched}
use Rattle.routes.specs.Loops.{Searching, Least, Expands}
use Rattle.cost.proofs.LengthLemmas.{tested, at_most_refl, at_most_trans, at_most_antisym, at_most_of_eq, at_most_infinite, infinite_at_most, at_most_cancel, sum_assoc, sum_infinite, origin_sum, sum_origin, origin_least, sum_left, sum_right, sum_both, remainder_le, lesser_left, lesser_right, le_lesser, greater_left, greater_le, sum_finite}
use Rattle.routes.proofs.Distances.{last, step_open, step_way, distance_route, distance_step, distance_triangle, distance_self}
use Rattle.routes.proofs.Estimates.{consistent_list}

module _ {C : Type 0} {K : Kind C} (laws : Laws K) {m : Meaning C} (lawful : Lawful K m) (start : ℕ) (first : start < m.places) where
  module _ (e : ℕ → Length C) (consistent : Consistent K m e) (g : ℕ → Length C) (marked : ℕ → Bool) (inv : Searching K m start g marked) where
    -- an unmarked place with a sum of at most b
    abbrev Unmarked : Length C → Type 0
    Unmarked b = (y : ℕ) × (y < m.places) × (marked y ≡ false) × AtMost K (sum K (g y) (e y)) b

    -- a list that leads to an unmarked place meets one whose sum is no greater than the cost by the list plus the estimate at its end
    pub frontier : (z : ℕ) (ps : List ℕ) (p : Length C) → z < m.places → AtMost K (g z) p → last z ps < m.places → marked (last z ps) ≡ false → Unmarked (sum K (sum K p (route_cost K m z ps)) (e (last z ps)))
    frontier z [] p h below place end = (z, h, end, sum_left laws (e z) (at_most_trans laws below (at_most_of_eq laws (sym (sum_origin laws p)))))
    frontier z (u ∷ ps) p h below place end = go (λ q l b. frontier u ps q l b place end) (tested (marked z)) (step_open laws m z u)
      where
        goal : Length C
        goal = sum K (sum K p (sum K (step K m z u) (route_cost K m u ps))) (e (last u ps))

        here : AtMost K (sum K (g z) (e z)) goal
        here = rw (sum_assoc laws p (sum K (step K m z u) (route_cost K m u ps)) (e (last u ps))) (sum_both laws below (consistent_list laws lawful e consistent z (u ∷ ps) h))

        go : ((q : Length C) → u < m.places → AtMost K (g u) q → Unmarked (sum K (sum K q (route_cost K m u ps)) (e (last u ps)))) → (marked z ≡ true) ⊎ (marked z ≡ false) → (step K m z u ≡ Infinite) ⊎ ((f : ℕ) × Way m z u f × (step K m z u ≡ m.state f)) → Unmarked goal
        go ih (inr o) w = (z, h, o, here)
        go ih (inl c) (inl i) = (last u ps, place, end, rw (i, sum_infinite laws p) (at_most_infinite laws _))
        go ih (inl c) (inr w) =
            let through : AtMost K (g u) (sum K p (step K m z u)) = at_most_trans laws (inv.relaxed z u w.0 h c w.1) (rw w.2 (sum_left laws (m.state w.0) below)) in
            let r = ih (sum K p (step K m z u)) (lawful.way_place z u w.0 w.1) through in
            (r.0, r.1, r.2, subst (λ x. AtMost K (sum K (g r.0) (e r.0)) (sum K x (e (last u ps)))) (sum_assoc laws p (step K m z u) (route_cost K m u ps)) r.3)

    -- an unmarked place t: some unmarked place has a sum of at most distance(start, t) + estimate(t)
    pub frontier_distance : (t : ℕ) → t < m.places → marked t ≡ false → Unmarked (sum K (distance K m start t) (e t))
    frontier_distance t h o = ⊎_elim
        (λ i. (t, h, o, rw i (at_most_infinite laws _)))
        (λ r.
        let place : last start r.0 < m.places = rw r.2 h in
        let end : marked (last start r.0) ≡ false = rw r.2 o in
        let q = frontier start r.0 (origin K) first (at_most_of_eq laws inv.at_start) place end in
        (q.0, q.1, q.2, subst (λ x. AtMost K (sum K (g q.0) (e q.0)) (sum K x (e t))) (origin_sum laws (route_cost K m start r.0) ∙ r.3) (subst (λ x. AtMost K (sum K (g q.0) (e q.0)) (sum K (sum K (origin K) (route_cost K m start r.0)) (e x))) r.2 q.3)))
        (distance_route laws lawful start t)

    -- a least sum is at most distance(start, t) + estimate(t) for each unmarked t
    pub least_unmarked : (x t : ℕ) → Least K m e g marked x → t < m.places → marked t ≡ false → AtMost K (sum K (g x) (e x)) (sum K (distance K m start t) (e t))
    least_unmarked x t l h o = let y = frontier_distance t h o in at_most_trans laws (l.minimal y.0 y.1 y.2) y.3

    -- a place of the least sum, where that is a cost, has its distance
    pub least_final : (x : ℕ) (c : C) → Least K m e g marked x → sum K (g x) (e x) ≡ Finite c → g x ≡ distance K m start x
    least_final x c l finite =
        let parts = sum_finite K (g x) (e x) c finite in
        let known = subst (λ y. AtMost K (sum K (g x) y) (sum K (distance K m start x) y)) parts.3 (least_unmarked x x l l.place l.unmarked) in
        at_most_antisym laws (at_most_cancel laws parts.1 known) (inv.above x l.place)

    -- the target, taken, has the answer
    pub target_final : (t : ℕ) → e t ≡ origin K → Least K m e g marked t → g t ≡ distance K m start t
    target_final t z l =
        let known = subst (λ y. AtMost K (sum K (g t) y) (sum K (distance K m start t) y)) z (least_unmarked t t l l.place l.unmarked) in
        at_most_antisym laws (at_most_cancel laws K.zero known) (inv.above t l.place)

    -- no sum of an unmarked place is a cost: there is no route to the unmarked target
    pub none_left : (t : ℕ) → e t ≡ origin K → t < m.places → marked t ≡ false → ((y : ℕ) → y < m.places → marked y ≡ false → sum K (g y) (e y) ≡ Infinite) → distance K m start t ≡ Infinite
    none_left t z h o none =
        let y = frontier_distance t h o in
        infinite_at_most laws (subst (λ x. AtMost K x (distance K m start t)) (none y.0 y.1 y.2) (subst (λ x. AtMost K (sum K (g y.0) (e y.0)) x) (ap (sum K (distance K m start t)) z ∙ sum_origin laws (distance K m start t)) y.3))

    -- a place taken has a sum of at most the answer
    pub least_answer : (x t : ℕ) → e t ≡ origin K → Least K m e g marked x → t < m.places → marked t ≡ false → AtMost K (sum K (g x) (e x)) (distance K m start t)
    least_answer x t z l h o = subst (λ y. AtMost K (sum K (g x) (e x)) y) (ap (sum K (distance K m start t)) z ∙ sum_origin laws (distance K m start t)) (least_unmarked x t l h o)

    -- once no sum of an unmarked place is below the answer, each place whose sum is below it is marked
    pub unmarked_answer : (answer : Length C) → ((y : ℕ) → y < m.places → marked y ≡ false → AtMost K answer (sum K (g y) (e y))) → (s : ℕ) → s < m.places → marked s ≡ false → AtMost K answer (sum K (distance K m start s) (e s))
    unmarked_answer answer none s h o = let y = frontier_distance s h o in at_most_trans laws (none y.0 y.1 y.2) y.3

    -- and the estimate of an unmarked place stays
    pub unmarked_kept : (t : ℕ) → ((y : ℕ) → y < m.places → marked y ≡ false → AtMost K (distance K m start t) (sum K (g y) (e y))) → (s : ℕ) → s < m.places → marked s ≡ false → searched K m start t e s ≡ e s
    unfolding searched
    unmarked_kept t none s h o = at_most_antisym laws (greater_le laws (at_most_refl laws (e s)) (remainder_le laws (distance K m start s) (unmarked_answer (distance K m start t) none s h o))) (greater_left laws (e s) (remainder K (distance K m start t) (distance K m start s)))

  -- the start: nothing is marked, and only the start has been found
  pub searching_start : (g : ℕ → Length C) (marked : ℕ → Bool) → g start ≡ origin K → ((s : ℕ) → s < m.places → (s ≡ start → ⊥) → g s ≡ Infinite) → ((s : ℕ) → s < m.places → marked s ≡ false) → Searching K m start g marked
  searching_start g marked z far none = record {
    at_start = z;
    above = λ s h. go s h (ℕ_discrete s start);
    final = λ s h c. absurd (false≢true (sym (none s h) ∙ c));
    relaxed = λ s u f h c w. absurd (false≢true (sym (none s h) ∙ c));
  }
    where
      go : (s : ℕ) → s < m.places → Dec (s ≡ start) → AtMost K (distance K m start s) (g s)
      go s h (yes same) = rw same (at_most_of_eq laws (distance_self laws lawful start ∙ sym z))
      go s h (no other) = rw (far s h other) (at_most_infinite laws (distance K m start s))

  -- a turn
  pub searching_turn : (g h : ℕ → Length C) (marked marked' : ℕ → Bool) (x : ℕ) → x < m.places → g x ≡ distance K m start x → Searching K m start g marked → Expands K m x g h marked marked' → Searching K m start h marked'
  searching_turn g h marked marked' x hx final inv turn = record {
    at_start = at_most_antisym laws (at_most_trans laws (lower start first) (at_most_of_eq laws inv.at_start)) (origin_least laws (h start));
    above = above;
    final = λ s l c. kept s l (known s l (turn.marks s l c));
    relaxed = λ s u f l c w. rw (kept s l (known s l (turn.marks s l c)), ← known s l (turn.marks s l c)) (⊎_elim
        (λ same. through s u f w same)
        (λ old. at_most_trans laws (lower u (lawful.way_place s u f w)) (inv.relaxed s u f l old w))
        (turn.marks s l c));
  }
    where
      lower : (s : ℕ) → s < m.places → AtMost K (h s) (g s)
      lower s l = rw (turn.lowered s l) (lesser_left laws (g s) (sum K (g x) (step K m x s)))

      above : (s : ℕ) → s < m.places → AtMost K (distance K m start s) (h s)
      above s l = rw (turn.lowered s l) (le_lesser laws (inv.above s l) (rw final (at_most_trans laws (distance_triangle laws lawful start x s first) (sum_right laws (distance K m start x) (distance_step laws lawful x s hx)))))

      kept : (s : ℕ) → s < m.places → g s ≡ distance K m start s → h s ≡ distance K m start s
      kept s l e = at_most_antisym laws (at_most_trans laws (lower s l) (at_most_of_eq laws e)) (above s l)

      known : (s : ℕ) → s < m.places → (s ≡ x) ⊎ (marked s ≡ true) → g s ≡ distance K m start s
      known s l (inl same) = ap g same ∙ final ∙ ap (distance K m start) (sym same)
      known s l (inr old) = inv.final s l old

      through : (s u f : ℕ) → Way m s u f → s ≡ x → AtMost K (h u) (sum K (g s) (m.state f))
      through s u f w same =
          let v = subst (λ y. Way m y u f) same w in
          rw (turn.lowered u (lawful.way_place s u f w), same) (at_most_trans laws (lesser_right laws (g u) (sum K (g x) (step K m x u))) (sum_right laws (g x) (step_way laws m x u f v)))
