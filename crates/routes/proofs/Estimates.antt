-- Sound estimates are lower bounds, and every call keeps them sound.
use mathlib.Core.Path.{◌≡◌, refl, sym, ap, ap₂, subst, ◌∙◌}
use mathlib.Core.Logic.{◌⊎◌, inl, inr, ⊎_elim}
use mathlib.Core.List.{List, [], ◌∷◌}
use Prim.Native.Nat.{ℕ, zero, suc, ◌<◌}
use native.Mathlib.Omega.{arith}
use Rattle.cost.specs.declared.lengths.Length.{Length}
use Rattle.cost.specs.declared.lengths.Length.TheVariants.{Finite, Infinite}
use Rattle.cost.specs.Costs.{Kind, Laws}
use Rattle.cost.specs.Lengths.{AtMost, Within, sum, remainder, cut_length, lesser, greater, origin, least_below}
use Rattle.routes.specs.Sites.{Meaning, Way, Lawful}
use Rattle.routes.specs.Routes.{step, route_cost, distance, Route}
use Rattle.routes.specs.Estimates.{Consistent, Hinted, opened, least_through, altered, retargeted, searched, Sound}
use Rattle.cost.proofs.LengthLemmas.{at_most_refl, at_most_trans, at_most_antisym, at_most_of_eq, at_most_infinite, sum_assoc, sum_comm, origin_sum, sum_origin, origin_least, sum_left, sum_right, remainder_le, le_remainder, remainder_covers, remainder_self, greater_left, greater_right, greater_le, least_below_le, le_least_below, within_finite, within_greater, within_remainder, cut_length_le, cut_length_within, cut_length_greatest, cut_sum, cut_length_mono, length_cases}
use Rattle.routes.proofs.Distances.{last, step_open, route_last, distance_route, distance_within, distance_self, distance_way, way_distance}

-- a closed way asks nothing
pub consistent_way : {C : Type 0} {K : Kind C} (laws : Laws K) (m : Meaning C) (e : ℕ → Length C) → Consistent K m e → (s u f : ℕ) → s < m.places → Way m s u f → AtMost K (e s) (sum K (m.state f) (e u))
consistent_way laws m e consistent s u f h w = ⊎_elim
    (λ i. rw i (at_most_infinite laws (e s)))
    (λ c. rw c.1 (consistent s u f c.0 h w c.1))
    (length_cases (m.state f))

module _ {C : Type 0} {K : Kind C} (laws : Laws K) {m : Meaning C} (lawful : Lawful K m) (e : ℕ → Length C) (consistent : Consistent K m e) where
  -- no estimate is above the cost of a list plus the estimate at its end
  pub consistent_list : (s : ℕ) (ps : List ℕ) → s < m.places → AtMost K (e s) (sum K (route_cost K m s ps) (e (last s ps)))
  consistent_list s [] h = at_most_of_eq laws (sym (origin_sum laws (e s)))
  consistent_list s (u ∷ ps) h = go (λ l. consistent_list u ps l) (step_open laws m s u)
    where
      go : (u < m.places → AtMost K (e u) (sum K (route_cost K m u ps) (e (last u ps)))) → (step K m s u ≡ Infinite) ⊎ ((f : ℕ) × Way m s u f × (step K m s u ≡ m.state f)) → AtMost K (e s) (sum K (sum K (step K m s u) (route_cost K m u ps)) (e (last u ps)))
      go ih (inl i) = rw i (at_most_infinite laws (e s))
      go ih (inr w) = rw (sum_assoc laws (step K m s u) (route_cost K m u ps) (e (last u ps)), w.2) (at_most_trans laws (consistent_way laws m e consistent s u w.0 h w.1) (sum_right laws (m.state w.0) (ih (lawful.way_place s u w.0 w.1))))

  pub consistent_route : (s t : ℕ) (ps : List ℕ) → s < m.places → Route m s t ps → AtMost K (e s) (sum K (route_cost K m s ps) (e t))
  consistent_route s t ps h r = subst (λ x. AtMost K (e s) (sum K (route_cost K m s ps) (e x))) (route_last laws m s t ps r) (consistent_list s ps h)

  pub consistent_distance : (s t : ℕ) → s < m.places → AtMost K (e s) (sum K (distance K m s t) (e t))
  consistent_distance s t h = ⊎_elim
      (λ i. rw i (at_most_infinite laws (e s)))
      (λ r. subst (λ x. AtMost K (e s) (sum K x (e t))) r.3 (subst (λ x. AtMost K (e s) (sum K (route_cost K m s r.0) (e x))) r.2 (consistent_list s r.0 h)))
      (distance_route laws lawful s t)

module _ {C : Type 0} {K : Kind C} (laws : Laws K) {m : Meaning C} (lawful : Lawful K m) where
  -- no estimate is above the distance to the target
  pub sound_distance : {target : ℕ} {e : ℕ → Length C} → Sound K m target e → (s : ℕ) → s < m.places → AtMost K (e s) (distance K m s target)
  sound_distance {target} {e} sound s h = subst (λ x. AtMost K (e s) x) (ap (sum K (distance K m s target)) sound.target_zero ∙ sum_origin laws (distance K m s target)) (consistent_distance laws lawful e sound.consistent s target h)

  pub opened_sound : (target : ℕ) → target < m.places → Sound K m target (opened K m target)
  opened_sound target ht = record {
    target_zero = ap Finite (lawful.hint_self target ht);
    within = λ s h. within_finite laws (lawful.hint_within s target h ht);
    consistent = λ s u f c h w o.
        let floored : AtMost K (Finite (m.floor f)) (Finite c) = record { holds = lawful.state_floor f c (lawful.way_segment s u f w) o } in
        at_most_trans laws (record { holds = lawful.hint_way s u f target h ht w }) (sum_left laws (Finite (m.hint u target)) floored);
  }

  pub opened_hinted : (target : ℕ) → Hinted K m target (opened K m target)
  opened_hinted target s h = at_most_refl laws (opened K m target s)

  pub hint_distance : (s t : ℕ) → s < m.places → t < m.places → AtMost K (Finite (m.hint s t)) (distance K m s t)
  hint_distance s t h ht = sound_distance (opened_sound t ht) s h

  -- alter
  pub least_through_le : (e : ℕ → Length C) (s t : ℕ) → t < m.places → AtMost K (least_through K m e s) (sum K (distance K m s t) (e t))
  least_through_le e s t h = least_below_le laws (λ t. sum K (distance K m s t) (e t)) m.places t h

  -- never above the estimate that was there
  pub least_through_self : (e : ℕ → Length C) (s : ℕ) → s < m.places → AtMost K (least_through K m e s) (e s)
  least_through_self e s h = subst (λ x. AtMost K (least_through K m e s) x) (ap (λ d. sum K d (e s)) (distance_self laws lawful s) ∙ origin_sum laws (e s)) (least_through_le e s s h)

  pub least_through_way : (e : ℕ → Length C) (s u f : ℕ) → s < m.places → Way m s u f → AtMost K (least_through K m e s) (sum K (m.state f) (least_through K m e u))
  least_through_way e s u f h w = le_remainder laws (m.state f) (le_least_below laws (λ t. sum K (distance K m u t) (e t)) m.places (λ t l. remainder_le laws (m.state f)
      (at_most_trans laws (least_through_le e s t l) (subst (λ x. AtMost K (sum K (distance K m s t) (e t)) x) (sum_assoc laws (m.state f) (distance K m u t) (e t)) (sum_left laws (e t) (distance_way laws lawful s u f t h w))))))

  pub altered_way : (e : ℕ → Length C) (s u f : ℕ) → s < m.places → Way m s u f → AtMost K (altered K m e s) (sum K (m.state f) (altered K m e u))
  unfolding altered
  altered_way e s u f h w = at_most_trans laws (cut_length_mono laws (least_through_way e s u f h w)) (cut_sum laws (m.state f) (least_through K m e u))

  pub altered_self : (e : ℕ → Length C) (s : ℕ) → s < m.places → AtMost K (altered K m e s) (e s)
  unfolding altered
  altered_self e s h = at_most_trans laws (cut_length_le laws (least_through K m e s)) (least_through_self e s h)

  pub altered_within : (e : ℕ → Length C) (s : ℕ) → Within K (altered K m e s)
  unfolding altered
  altered_within e s = cut_length_within laws (least_through K m e s)

  pub altered_consistent : (e : ℕ → Length C) → Consistent K m (altered K m e)
  altered_consistent e s u f c h w o = subst (λ x. AtMost K (altered K m e s) (sum K x (altered K m e u))) o (altered_way e s u f h w)

  pub altered_sound : (target : ℕ) (e : ℕ → Length C) → target < m.places → e target ≡ origin K → Sound K m target (altered K m e)
  altered_sound target e ht z = record {
    target_zero = at_most_antisym laws (subst (λ x. AtMost K (altered K m e target) x) z (altered_self e target ht)) (origin_least laws (altered K m e target));
    within = λ s h. altered_within e s;
    consistent = altered_consistent e;
  }

  pub altered_hinted : (target : ℕ) (e : ℕ → Length C) → target < m.places → Hinted K m target e → Hinted K m target (altered K m e)
  unfolding altered
  altered_hinted target e ht hinted s h = cut_length_greatest laws (within_finite laws (lawful.hint_within s target h ht)) (le_least_below laws _ m.places (λ t l. at_most_trans laws (consistent_distance laws lawful (opened K m target) (opened_sound target ht).consistent s t h) (sum_right laws (distance K m s t) (hinted t l))))

  -- retarget
  remainder_way : {a : Length C} (b c g : Length C) → AtMost K a (sum K c b) → AtMost K (remainder K a g) (sum K c (remainder K b g))
  remainder_way {a} b c g p = remainder_le laws g (at_most_trans laws p (subst (λ x. AtMost K (sum K c b) x) (swap c g (remainder K b g)) (sum_right laws c (remainder_covers laws b g))))
    where
      swap : (a b c : Length C) → sum K a (sum K b c) ≡ sum K b (sum K a c)
      swap a b c = sym (sum_assoc laws a b c) ∙ ap (λ x. sum K x c) (sum_comm laws a b) ∙ sum_assoc laws b a c

  pub retargeted_sound : (target n : ℕ) (e : ℕ → Length C) → n < m.places → Sound K m target e → Sound K m n (retargeted K m n e)
  unfolding retargeted
  retargeted_sound target n e hn sound = record {
    target_zero = at_most_antisym laws (greater_le laws (at_most_of_eq laws (ap Finite (lawful.hint_self n hn))) (at_most_of_eq laws (remainder_self laws (e n)))) (origin_least laws (retargeted K m n e n));
    within = λ s h. within_greater laws (within_finite laws (lawful.hint_within s n h hn)) (within_remainder laws (e s) (e n) (sound.within s h));
    consistent = λ s u f c h w o. greater_le laws
        (at_most_trans laws ((opened_sound n hn).consistent s u f c h w o) (sum_right laws (Finite c) (greater_left laws (Finite (m.hint u n)) (remainder K (e u) (e n)))))
        (at_most_trans laws (remainder_way (e u) (Finite c) (e n) (sound.consistent s u f c h w o)) (sum_right laws (Finite c) (greater_right laws (Finite (m.hint u n)) (remainder K (e u) (e n)))));
  }

  pub retargeted_hinted : (n : ℕ) (e : ℕ → Length C) → Hinted K m n (retargeted K m n e)
  unfolding retargeted
  retargeted_hinted n e s h = greater_left laws (Finite (m.hint s n)) (remainder K (e s) (e n))

  -- search
  answer_way : (start a s u f : ℕ) → start < m.places → s < m.places → Way m s u f → AtMost K (remainder K (distance K m start a) (distance K m start s)) (sum K (m.state f) (remainder K (distance K m start a) (distance K m start u)))
  answer_way start a s u f hs h w =
      let rest = remainder K (distance K m start a) (distance K m start u) in
      remainder_le laws (distance K m start s) (at_most_trans laws (remainder_covers laws (distance K m start a) (distance K m start u)) (subst (λ x. AtMost K (sum K (distance K m start u) rest) x) (sum_assoc laws (distance K m start s) (m.state f) rest) (sum_left laws rest (way_distance laws lawful start s u f hs h w))))

  pub searched_sound : (start target : ℕ) (e : ℕ → Length C) → start < m.places → Sound K m target e → Sound K m target (searched K m start target e)
  unfolding searched
  searched_sound start target e hs sound = record {
    target_zero = at_most_antisym laws (greater_le laws (at_most_of_eq laws sound.target_zero) (at_most_of_eq laws (remainder_self laws (distance K m start target)))) (origin_least laws (searched K m start target e target));
    within = λ s h. within_greater laws (sound.within s h) (within_remainder laws (distance K m start target) (distance K m start s) (distance_within laws lawful start target));
    consistent = λ s u f c h w o. greater_le laws
        (at_most_trans laws (sound.consistent s u f c h w o) (sum_right laws (Finite c) (greater_left laws (e u) (remainder K (distance K m start target) (distance K m start u)))))
        (at_most_trans laws (subst (λ x. AtMost K (remainder K (distance K m start target) (distance K m start s)) (sum K x (remainder K (distance K m start target) (distance K m start u)))) o (answer_way start target s u f hs h w)) (sum_right laws (Finite c) (greater_right laws (e u) (remainder K (distance K m start target) (distance K m start u)))));
  }

  pub searched_hinted : (start target : ℕ) (e : ℕ → Length C) → Hinted K m target e → Hinted K m target (searched K m start target e)
  unfolding searched
  searched_hinted start target e hinted s h = at_most_trans laws (hinted s h) (greater_left laws (e s) (remainder K (distance K m start target) (distance K m start s)))

-- The formulas read the estimates of places alone.
module _ {C : Type 0} (K : Kind C) (m : Meaning C) (e v : ℕ → Length C) (agree : (s : ℕ) → s < m.places → e s ≡ v s) where
  least_below_cong : (f g : ℕ → Length C) (n : ℕ) → ((t : ℕ) → t < n → f t ≡ g t) → least_below K f n ≡ least_below K g n
  least_below_cong f g zero h = refl
  least_below_cong f g (suc n) h = ap₂ (lesser K) (h n (omega arith)) (least_below_cong f g n (λ t l. h t (omega arith)))

  pub altered_cong : (s : ℕ) → altered K m e s ≡ altered K m v s
  unfolding altered
  altered_cong s = ap (cut_length K) (least_below_cong (λ t. sum K (distance K m s t) (e t)) (λ t. sum K (distance K m s t) (v t)) m.places (λ t l. ap (sum K (distance K m s t)) (agree t l)))

  pub retargeted_cong : (n s : ℕ) → n < m.places → s < m.places → retargeted K m n e s ≡ retargeted K m n v s
  unfolding retargeted
  retargeted_cong n s hn h = ap (greater K (Finite (m.hint s n))) (ap₂ (remainder K) (agree s h) (agree n hn))

  pub searched_cong : (start target s : ℕ) → s < m.places → searched K m start target e s ≡ searched K m start target v s
  unfolding searched
  searched_cong start target s h = ap (λ x. greater K x (remainder K (distance K m start target) (distance K m start s))) (agree s h)
