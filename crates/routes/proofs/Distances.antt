-- The distance is the least cost of a route.
use mathlib.Core.Path.{◌≡◌, refl, sym, ap, ap₂, subst, ◌∙◌}
use mathlib.Core.Bool.{true, false, cond}
use mathlib.Core.Logic.{◌⊎◌, inl, inr, ⊎_elim}
use mathlib.Core.List.Memᴰ
use mathlib.Core.List.{List, [], ◌∷◌, ◌++◌, Memᴰ}
use Prim.Native.Nat.{ℕ, zero, suc, ◌-◌, ◌≤◌, ◌<◌}
use native.Mathlib.Omega.{arith}
use native.Mathlib.Decide.{ℕ_discrete}
use lib.ListN.{length}
use lib.Dec.{eqb}
use borrow.Author.Tests.{eqb-true, eq-eqb}
use Rattle.cost.specs.declared.lengths.Length.{Length}
use Rattle.cost.specs.declared.lengths.Length.TheVariants.{Finite, Infinite}
use Rattle.cost.specs.Costs.{Kind, Laws, most_steps, Segments, total}
use Rattle.cost.specs.Lengths.{AtMost, Within, sum, origin, least}
use Rattle.routes.specs.Sites.{Meaning, Way, Lawful}
use Rattle.routes.specs.Routes.{step, way_to, route_cost, distance_stay, distance_by, distance, OpenWay, Route, Distance}
use Rattle.cost.proofs.LengthLemmas.{tested, infinite_not_finite, finite_below, finite_inj, at_most_refl, at_most_trans, at_most_antisym, at_most_of_eq, at_most_infinite, sum_assoc, sum_infinite, origin_sum, sum_origin, origin_least, sum_left, sum_right, sum_both, at_most_sum_right, lesser_left, lesser_right, lesser_one, least_le, least_one, length_cases, sum_finite}
use Rattle.routes.proofs.Lists.{All, all_map, all_remove, remove, remove_shorter, numbers, numbers_length, numbers_mem}

-- where the route that begins at s ends
abbrev pub last : ℕ → List ℕ → ℕ
last s [] = s
last s (u ∷ ps) = last u ps

module _ {C : Type 0} {K : Kind C} (laws : Laws K) (m : Meaning C) where
  pub step_way : (s u f : ℕ) → Way m s u f → AtMost K (step K m s u) (m.state f)
  unfolding step
  step_way s u f w = subst (λ b. AtMost K (least K (way_to K m u) (m.ways s)) (cond b (m.state f) Infinite)) (eq-eqb u u refl) (least_le laws (way_to K m u) w)

  -- a step is that of an open way
  pub step_open : (s u : ℕ) → (step K m s u ≡ Infinite) ⊎ ((f : ℕ) × Way m s u f × (step K m s u ≡ m.state f))
  unfolding step
  step_open s u = ⊎_elim inl (λ w. go w.0 w.1 w.2 (tested (eqb w.0.0 u))) (least_one laws (way_to K m u) (m.ways s))
    where
      go : (w : ℕ × ℕ) → Memᴰ w (m.ways s) → step K m s u ≡ way_to K m u w → (eqb w.0 u ≡ true) ⊎ (eqb w.0 u ≡ false) → (step K m s u ≡ Infinite) ⊎ ((f : ℕ) × Way m s u f × (step K m s u ≡ m.state f))
      go w mem e (inl h) = inr (w.1, subst (λ x. Memᴰ (x, w.1) (m.ways s)) (eqb-true w.0 u h) mem, (rw h at e))
      go w mem e (inr h) = inl (rw h at e)

  pub step_opens : (s u : ℕ) (c : C) → step K m s u ≡ Finite c → OpenWay m s u
  step_opens s u c e = ⊎_elim (λ i. absurd (infinite_not_finite (sym i ∙ e))) (λ o. record { segment = o.0; cost = c; way = o.1; opened = sym o.2 ∙ e }) (step_open s u)

  pub route_last : (s t : ℕ) (ps : List ℕ) → Route m s t ps → last s ps ≡ t
  route_last s t [] r = r
  route_last s t (u ∷ ps) r = route_last u t ps r.1

  -- a list whose cost is finite is a route
  pub finite_route : (s : ℕ) (ps : List ℕ) (c : C) → route_cost K m s ps ≡ Finite c → Route m s (last s ps) ps
  finite_route s [] c e = refl
  finite_route s (u ∷ ps) c e =
      let parts = sum_finite K (step K m s u) (route_cost K m u ps) c e in
      (step_opens s u parts.0 parts.2, finite_route u ps parts.1 parts.3)

  -- the ends of what two routes join to
  pub last_append : (s : ℕ) (ps qs : List ℕ) → last s (ps ++ qs) ≡ last (last s ps) qs
  last_append s [] qs = refl
  last_append s (u ∷ ps) qs = last_append u ps qs

  pub cost_append : (s : ℕ) (ps qs : List ℕ) → route_cost K m s (ps ++ qs) ≡ sum K (route_cost K m s ps) (route_cost K m (last s ps) qs)
  cost_append s [] qs = sym (origin_sum laws (route_cost K m s qs))
  cost_append s (u ∷ ps) qs = ap (sum K (step K m s u)) (cost_append u ps qs) ∙ sym (sum_assoc laws (step K m s u) (route_cost K m u ps) (route_cost K m (last u ps) qs))

  -- one step more
  pub cost_push : (s : ℕ) (ps : List ℕ) (u : ℕ) → route_cost K m s (ps ++ (u ∷ [])) ≡ sum K (route_cost K m s ps) (step K m (last s ps) u)
  cost_push s ps u = cost_append s ps (u ∷ []) ∙ ap (sum K (route_cost K m s ps)) (sum_origin laws (step K m (last s ps) u))

  -- of at most k steps: a lower bound on each such list
  distance_stay_le : (s t : ℕ) → s ≡ t → distance_stay K m s t ≡ origin K
  distance_stay_le s t e = rw (eq-eqb s t e)

  pub distance_by_le : (k s t : ℕ) (ps : List ℕ) → length ps ≤ k → last s ps ≡ t → AtMost K (distance_by K m k s t) (route_cost K m s ps)
  unfolding distance_by
  distance_by_le zero s t [] h e = at_most_of_eq laws (distance_stay_le s t e)
  distance_by_le zero s t (u ∷ ps) h e = absurd (omega arith)
  distance_by_le (suc k) s t [] h e = at_most_trans laws (lesser_left laws (distance_stay K m s t) _) (at_most_of_eq laws (distance_stay_le s t e))
  distance_by_le (suc k) s t (u ∷ ps) h e = at_most_trans laws (lesser_right laws (distance_stay K m s t) _) (go (distance_by_le k u t ps (omega arith) e) (step_open s u))
    where
      onward : ℕ × ℕ → Length C
      onward w = sum K (m.state w.1) (distance_by K m k w.0 t)

      go : AtMost K (distance_by K m k u t) (route_cost K m u ps) → (step K m s u ≡ Infinite) ⊎ ((f : ℕ) × Way m s u f × (step K m s u ≡ m.state f)) → AtMost K (least K onward (m.ways s)) (sum K (step K m s u) (route_cost K m u ps))
      go ih (inl i) = rw i (at_most_infinite laws _)
      go ih (inr w) = rw w.2 (at_most_trans laws (least_le laws onward w.1) (sum_right laws (m.state w.0) ih))

  -- a list of at most k steps from s to t whose cost is at most d
  abbrev Reaches : ℕ → ℕ → ℕ → Length C → Type 0
  Reaches k s t d = (ps : List ℕ) × (length ps ≤ k) × (last s ps ≡ t) × AtMost K (route_cost K m s ps) d

  stay_one : (k s t : ℕ) → (distance_stay K m s t ≡ Infinite) ⊎ Reaches k s t (distance_stay K m s t)
  stay_one k s t = ⊎_elim (λ h. inr ([], (omega arith), eqb-true s t h, rw h (at_most_refl laws (origin K)))) (λ h. inl (rw h)) (tested (eqb s t))

  -- and it is the cost of one, or infinite
  pub distance_by_one : (k s t : ℕ) → (distance_by K m k s t ≡ Infinite) ⊎ Reaches k s t (distance_by K m k s t)
  unfolding distance_by
  distance_by_one zero s t = stay_one zero s t
  distance_by_one (suc k) s t = both (λ u. distance_by_one k u t) (stay_one (suc k) s t) (least_one laws onward (m.ways s)) (lesser_one laws (distance_stay K m s t) (least K onward (m.ways s)))
    where
      onward : ℕ × ℕ → Length C
      onward w = sum K (m.state w.1) (distance_by K m k w.0 t)

      further : (w : ℕ × ℕ) → Memᴰ w (m.ways s) → (distance_by K m k w.0 t ≡ Infinite) ⊎ Reaches k w.0 t (distance_by K m k w.0 t) → (onward w ≡ Infinite) ⊎ Reaches (suc k) s t (onward w)
      further w mem (inl i) = inl (ap (sum K (m.state w.1)) i ∙ sum_infinite laws (m.state w.1))
      further w mem (inr r) = inr (w.0 ∷ r.0, (omega arith), r.2, sum_both laws (step_way s w.0 w.1 mem) r.3)

      both : ((u : ℕ) → (distance_by K m k u t ≡ Infinite) ⊎ Reaches k u t (distance_by K m k u t)) → (distance_stay K m s t ≡ Infinite) ⊎ Reaches (suc k) s t (distance_stay K m s t) → (least K onward (m.ways s) ≡ Infinite) ⊎ ((w : ℕ × ℕ) × Memᴰ w (m.ways s) × (least K onward (m.ways s) ≡ onward w)) → (distance_by K m (suc k) s t ≡ distance_stay K m s t) ⊎ (distance_by K m (suc k) s t ≡ least K onward (m.ways s)) → (distance_by K m (suc k) s t ≡ Infinite) ⊎ Reaches (suc k) s t (distance_by K m (suc k) s t)
      both ih here there (inl e) = rw e here
      both ih here (inl i) (inr e) = inl (e ∙ i)
      both ih here (inr w) (inr e) = ⊎_elim (λ i. inl (e ∙ w.2 ∙ i)) (λ r. inr (r.0, r.1, r.2, rw (e ∙ w.2) r.3)) (further w.0 w.1 (ih w.0.0))

  -- what leads from v to the end either never meets u, or can be had from u on, at no greater cost, without meeting u again
  pub trim : (P : ℕ → Type 0) (u v : ℕ) (ps : List ℕ) → All P ps → All (λ x. x ≡ u → ⊥) ps ⊎ ((qs : List ℕ) × All P qs × All (λ x. x ≡ u → ⊥) qs × (last u qs ≡ last v ps) × AtMost K (route_cost K m u qs) (route_cost K m v ps))
  trim P u v [] h = inl tt
  trim P u v (x ∷ ps) h = go (trim P u x ps h.1) (ℕ_discrete x u)
    where
      go : All (λ x. x ≡ u → ⊥) ps ⊎ ((qs : List ℕ) × All P qs × All (λ x. x ≡ u → ⊥) qs × (last u qs ≡ last x ps) × AtMost K (route_cost K m u qs) (route_cost K m x ps)) → Dec (x ≡ u) → All (λ x. x ≡ u → ⊥) (x ∷ ps) ⊎ ((qs : List ℕ) × All P qs × All (λ x. x ≡ u → ⊥) qs × (last u qs ≡ last x ps) × AtMost K (route_cost K m u qs) (sum K (step K m v x) (route_cost K m x ps)))
      go (inr r) d = inr (r.0, r.1, r.2, r.3, at_most_trans laws r.4 (at_most_sum_right laws (step K m v x) (route_cost K m x ps)))
      go (inl a) (no ne) = inl (ne, a)
      go (inl a) (yes e) = inr (ps, h.1, a, ap (λ y. last y ps) (sym e), at_most_trans laws (at_most_of_eq laws (ap (λ y. route_cost K m y ps) (sym e))) (at_most_sum_right laws (step K m v x) (route_cost K m x ps)))

  -- the same from u itself, which always can be had
  pub trim_self : (P : ℕ → Type 0) (u : ℕ) (ps : List ℕ) → All P ps → (qs : List ℕ) × All P qs × All (λ x. x ≡ u → ⊥) qs × (last u qs ≡ last u ps) × AtMost K (route_cost K m u qs) (route_cost K m u ps)
  trim_self P u ps h = ⊎_elim (λ a. (ps, h, a, refl, at_most_refl laws (route_cost K m u ps))) (λ r. r) (trim P u u ps h)

  -- among k places, k steps are enough
  pub shorten : (k : ℕ) (xs : List ℕ) (s : ℕ) (ps : List ℕ) → length xs ≤ k → All (λ x. Memᴰ x xs) ps → (qs : List ℕ) × (length qs ≤ k) × (last s qs ≡ last s ps) × AtMost K (route_cost K m s qs) (route_cost K m s ps)
  shorten k xs s [] h a = ([], (omega arith), refl, at_most_refl laws (origin K))
  shorten zero [] s (u ∷ ps) h a = absurd (Memᴰ.not-nil a.0)
  shorten zero (x ∷ xs) s (u ∷ ps) h a = absurd (omega arith)
  shorten (suc k) xs s (u ∷ ps) h a =
      let q = trim_self (λ x. Memᴰ x xs) u ps a.1 in
      let fewer : length (remove u xs) ≤ k = omega (arith, remove_shorter u xs a.0) in
      let r = shorten k (remove u xs) u q.0 fewer (all_remove u xs q.0 q.1 q.2) in
      (u ∷ r.0, (omega arith), r.2 ∙ q.3, sum_right laws (step K m s u) (at_most_trans laws r.3 q.4))

module _ {C : Type 0} {K : Kind C} (laws : Laws K) {m : Meaning C} (lawful : Lawful K m) where
  pub route_places : (s t : ℕ) (ps : List ℕ) → Route m s t ps → All (λ x. x < m.places) ps
  route_places s t [] r = tt
  route_places s t (u ∷ ps) r = (lawful.way_place s u r.0.segment r.0.way, route_places u t ps r.1)

  -- a route of fewer steps than there are places costs no more
  pub simple_route : (s t : ℕ) (ps : List ℕ) → s < m.places → Route m s t ps → (qs : List ℕ) × (length qs ≤ m.places - 1) × (last s qs ≡ t) × AtMost K (route_cost K m s qs) (route_cost K m s ps)
  simple_route s t ps h r =
      let a = all_map {Q = λ x. Memᴰ x (numbers m.places)} (λ x l. numbers_mem m.places x l) ps (route_places s t ps r) in
      let q = trim_self laws m (λ x. Memᴰ x (numbers m.places)) s ps a in
      let fewer : length (remove s (numbers m.places)) ≤ m.places - 1 = omega (arith, remove_shorter s (numbers m.places) (numbers_mem m.places s h), numbers_length m.places) in
      let w = shorten laws m (m.places - 1) (remove s (numbers m.places)) s q.0 fewer (all_remove s (numbers m.places) q.0 q.1 q.2) in
      (w.0, w.1, w.2 ∙ q.3 ∙ route_last laws m s t ps r, at_most_trans laws w.3 q.4)

  -- the distance is attained by a route of fewer steps than there are places
  pub distance_route : (s t : ℕ) → (distance K m s t ≡ Infinite) ⊎ ((ps : List ℕ) × (length ps ≤ m.places - 1) × (last s ps ≡ t) × (route_cost K m s ps ≡ distance K m s t))
  unfolding distance
  distance_route s t = ⊎_elim inl (λ r. inr (r.0, r.1, r.2, at_most_antisym laws r.3 (distance_by_le laws m (m.places - 1) s t r.0 r.1 r.2))) (distance_by_one laws m (m.places - 1) s t)

  pub distance_bound : (s t : ℕ) (qs : List ℕ) → length qs ≤ m.places - 1 → last s qs ≡ t → AtMost K (distance K m s t) (route_cost K m s qs)
  unfolding distance
  distance_bound s t qs l e = distance_by_le laws m (m.places - 1) s t qs l e

  -- the computed distance is the least cost of a route
  pub distance_is_least : (s t : ℕ) → s < m.places → Distance K m s t (distance K m s t)
  distance_is_least s t h = record {
    attained = λ c e. ⊎_elim
        (λ i. absurd (infinite_not_finite (sym i ∙ e)))
        (λ r. (r.0, subst (λ x. Route m s x r.0) r.2 (finite_route laws m s r.0 c (r.3 ∙ e)), r.3))
        (distance_route s t);
    least_cost = λ ps r. let q = simple_route s t ps h r in at_most_trans laws (distance_bound s t q.0 q.1 q.2) q.3;
  }

  -- every route costs something
  pub route_finite : (s t : ℕ) (ps : List ℕ) → Route m s t ps → (c : C) × (route_cost K m s ps ≡ Finite c)
  route_finite s t [] r = (K.zero, refl)
  route_finite s t (u ∷ ps) r =
      let way = r.0 in
      let first = finite_below laws (step K m s u) way.cost (subst (λ x. AtMost K (step K m s u) x) way.opened (step_way laws m s u way.segment way.way)) in
      let rest = route_finite u t ps r.1 in
      (K.add first.0 rest.0, ap₂ (sum K) first.1 rest.1)

  -- so where a route exists the distance is a cost
  pub distance_reached : (s t : ℕ) (ps : List ℕ) → s < m.places → Route m s t ps → distance K m s t ≡ Infinite → ⊥
  distance_reached s t ps h r far =
      let cost = route_finite s t ps r in
      let below : AtMost K (distance K m s t) (Finite cost.0) = subst (λ x. AtMost K (distance K m s t) x) cost.1 ((distance_is_least s t h).least_cost ps r) in
      infinite_not_finite (sym far ∙ (finite_below laws (distance K m s t) cost.0 below).1)

  pub distance_unreached : (s t : ℕ) → s < m.places → ((ps : List ℕ) → Route m s t ps → ⊥) → distance K m s t ≡ Infinite
  distance_unreached s t h none = ⊎_elim
      (λ i. i)
      (λ c. let r = (distance_is_least s t h).attained c.0 c.1 in absurd (none r.0 r.1))
      (length_cases (distance K m s t))

  -- there is only one least cost
  pub distance_unique : (s t : ℕ) (d e : Length C) → Distance K m s t d → Distance K m s t e → d ≡ e
  distance_unique s t d e p q = at_most_antisym laws (half d e p q) (half e d q p)
    where
      half : (d e : Length C) → Distance K m s t d → Distance K m s t e → AtMost K d e
      half d e p q = ⊎_elim
          (λ i. rw i (at_most_infinite laws d))
          (λ c. let r = q.attained c.0 c.1 in subst (λ x. AtMost K d x) r.2 (p.least_cost r.0 r.1))
          (length_cases e)

  pub step_segment : (s u : ℕ) (c : C) → step K m s u ≡ Finite c → K.segment c ≡ true
  step_segment s u c e = ⊎_elim
      (λ i. absurd (infinite_not_finite (sym i ∙ e)))
      (λ o. lawful.state_segment o.0 c (lawful.way_segment s u o.0 o.1) (sym o.2 ∙ e))
      (step_open laws m s u)

  -- the cost of a route is a sum of segment costs, one to a step
  pub cost_segments : (s : ℕ) (ps : List ℕ) (c : C) → route_cost K m s ps ≡ Finite c → (cs : List C) × Segments K cs × (length cs ≡ length ps) × (c ≡ total K cs)
  cost_segments s [] c e = ([], tt, refl, sym (finite_inj e))
  cost_segments s (u ∷ ps) c e =
      let parts = sum_finite K (step K m s u) (route_cost K m u ps) c e in
      let rest = cost_segments u ps parts.1 parts.3 in
      (parts.0 ∷ rest.0, (step_segment s u parts.0 parts.2, rest.1), ap suc rest.2, sym parts.4 ∙ ap (K.add parts.0) rest.3)

  -- a distance is a sum of at most places − 1 segment costs
  pub distance_segments : (s t : ℕ) (c : C) → distance K m s t ≡ Finite c → (cs : List C) × Segments K cs × (length cs ≤ m.places - 1) × (c ≡ total K cs)
  distance_segments s t c e = ⊎_elim
      (λ i. absurd (infinite_not_finite (sym i ∙ e)))
      (λ r. let q = cost_segments s r.0 c (r.3 ∙ e) in (q.0, q.1, (omega (arith, r.1, q.2)), q.3))
      (distance_route s t)

  -- so it is within the ceiling
  pub distance_within : (s t : ℕ) → Within K (distance K m s t)
  distance_within s t = record {
    fits = λ c e.
        let q = distance_segments s t c e in
        let few : length q.0 ≤ most_steps = omega (arith, q.2, lawful.places_few) in
        rw q.3 (laws.segments_within q.0 q.1 few);
  }

  -- distances: to itself, over a way, over a place between
  pub distance_self : (s : ℕ) → distance K m s s ≡ origin K
  distance_self s = at_most_antisym laws (distance_bound s s [] (omega arith) refl) (origin_least laws (distance K m s s))

  -- no list of places from s to t costs less
  pub distance_list : (s : ℕ) (ps : List ℕ) → s < m.places → AtMost K (distance K m s (last s ps)) (route_cost K m s ps)
  distance_list s ps h = ⊎_elim
      (λ i. rw i (at_most_infinite laws (distance K m s (last s ps))))
      (λ c. (distance_is_least s (last s ps) h).least_cost ps (finite_route laws m s ps c.0 c.1))
      (length_cases (route_cost K m s ps))

  pub distance_triangle : (s u t : ℕ) → s < m.places → AtMost K (distance K m s t) (sum K (distance K m s u) (distance K m u t))
  distance_triangle s u t h = go (distance_route s u) (distance_route u t)
    where
      go : (distance K m s u ≡ Infinite) ⊎ ((ps : List ℕ) × (length ps ≤ m.places - 1) × (last s ps ≡ u) × (route_cost K m s ps ≡ distance K m s u)) → (distance K m u t ≡ Infinite) ⊎ ((ps : List ℕ) × (length ps ≤ m.places - 1) × (last u ps ≡ t) × (route_cost K m u ps ≡ distance K m u t)) → AtMost K (distance K m s t) (sum K (distance K m s u) (distance K m u t))
      go (inl i) q = rw i (at_most_infinite laws _)
      go (inr p) (inl i) = rw (i, sum_infinite laws (distance K m s u)) (at_most_infinite laws _)
      go (inr p) (inr q) =
          let ends : last s (p.0 ++ q.0) ≡ t = last_append laws m s p.0 q.0 ∙ ap (λ x. last x q.0) p.2 ∙ q.2 in
          let costs : route_cost K m s (p.0 ++ q.0) ≡ sum K (distance K m s u) (distance K m u t) = cost_append laws m s p.0 q.0 ∙ ap (λ x. sum K (route_cost K m s p.0) (route_cost K m x q.0)) p.2 ∙ ap (λ x. sum K x (route_cost K m u q.0)) p.3 ∙ ap (sum K (distance K m s u)) q.3 in
          subst (λ x. AtMost K (distance K m s x) (sum K (distance K m s u) (distance K m u t))) ends (subst (λ x. AtMost K (distance K m s (last s (p.0 ++ q.0))) x) costs (distance_list s (p.0 ++ q.0) h))

  pub distance_step : (s u : ℕ) → s < m.places → AtMost K (distance K m s u) (step K m s u)
  distance_step s u h = subst (λ x. AtMost K (distance K m s u) x) (sum_origin laws (step K m s u)) (distance_list s (u ∷ []) h)

  pub distance_over : (s u f : ℕ) → s < m.places → Way m s u f → AtMost K (distance K m s u) (m.state f)
  distance_over s u f h w = at_most_trans laws (distance_step s u h) (step_way laws m s u f w)

  pub distance_way : (s u f t : ℕ) → s < m.places → Way m s u f → AtMost K (distance K m s t) (sum K (m.state f) (distance K m u t))
  distance_way s u f t h w = at_most_trans laws (distance_triangle s u t h) (sum_left laws (distance K m u t) (distance_over s u f h w))

  pub way_distance : (a s u f : ℕ) → a < m.places → s < m.places → Way m s u f → AtMost K (distance K m a u) (sum K (distance K m a s) (m.state f))
  way_distance a s u f ha hs w = at_most_trans laws (distance_triangle a s u ha) (sum_right laws (distance K m a s) (distance_over s u f hs w))
