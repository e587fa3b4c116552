-- What relaxation comes to: the estimates after alter are the greatest consistent ones under the old.
use mathlib.Core.Path.{◌≡◌, subst}
use mathlib.Core.Bool.{Bool, false}
use mathlib.Core.Logic.{⊎_elim}
use Prim.Native.Nat.{ℕ, ◌<◌}
use Rattle.cost.specs.declared.lengths.Length.{Length}
use Rattle.cost.specs.Costs.{Kind, Laws}
use Rattle.cost.specs.Lengths.{AtMost, Within, sum, cut_length, lesser}
use Rattle.routes.specs.Sites.{Meaning, Way, Lawful}
use Rattle.routes.specs.Routes.{step, distance}
use Rattle.routes.specs.Estimates.{Consistent, altered}
use Rattle.routes.specs.Loops.{Relaxing, Relaxes}
use Rattle.cost.proofs.LengthLemmas.{at_most_refl, at_most_trans, at_most_antisym, at_most_infinite, sum_left, sum_right, at_most_sum_right, lesser_left, lesser_right, le_lesser, lesser_of_le, le_least_below, within_lesser, cut_length_le, cut_length_within, cut_length_greatest}
use Rattle.routes.proofs.Distances.{step_open, step_way}
use Rattle.routes.proofs.Estimates.{consistent_distance, altered_way, altered_self, altered_within}

module _ {C : Type 0} {K : Kind C} (laws : Laws K) {m : Meaning C} (lawful : Lawful K m) (e : ℕ → Length C) where
  -- no consistent values under e and within the ceiling are above
  pub altered_greatest : (v : ℕ → Length C) → Consistent K m v → ((s : ℕ) → s < m.places → Within K (v s)) → ((s : ℕ) → s < m.places → AtMost K (v s) (e s)) → (s : ℕ) → s < m.places → AtMost K (v s) (altered K m e s)
  unfolding altered
  altered_greatest v consistent within below s h = cut_length_greatest laws (within s h) (le_least_below laws (λ t. sum K (distance K m s t) (e t)) m.places (λ t l. at_most_trans laws (consistent_distance laws lawful v consistent s t h) (sum_right laws (distance K m s t) (below t l))))

  -- where the estimates are still consistent, none changes
  pub altered_same : Consistent K m e → ((s : ℕ) → s < m.places → Within K (e s)) → (s : ℕ) → s < m.places → altered K m e s ≡ e s
  altered_same consistent within s h = at_most_antisym laws (altered_self laws lawful e s h) (altered_greatest e consistent within (λ t l. at_most_refl laws (e t)) s h)

  altered_cut : (v : ℕ → Length C) (s u : ℕ) → s < m.places → AtMost K (altered K m e u) (v u) → AtMost K (altered K m e s) (cut_length K (sum K (step K m s u) (v u)))
  altered_cut v s u h p = ⊎_elim
      (λ i. rw i (at_most_infinite laws (altered K m e s)))
      (λ w. rw w.2 (cut_length_greatest laws (altered_within laws lawful e s) (at_most_trans laws (altered_way laws lawful e s u w.0 h w.1) (sum_right laws (m.state w.0) p))))
      (step_open laws m s u)

  -- a value lowered through u is not under that of u
  pub relax_not_below : (c v : Length C) → Within K v → AtMost K v (cut_length K (sum K c v))
  relax_not_below c v w = cut_length_greatest laws w (at_most_sum_right laws c v)

  -- taken in the order of their values, each place is taken once: one with no greater value than u is not lowered through u
  pub done_kept : (c d v : Length C) → Within K v → AtMost K d v → lesser K d (cut_length K (sum K c v)) ≡ d
  done_kept c d v w p = lesser_of_le laws (at_most_trans laws p (relax_not_below c v w))

  -- and one that is lowered stays no nearer than u
  pub pending_above : (c d v : Length C) → Within K v → AtMost K v d → AtMost K v (lesser K d (cut_length K (sum K c v)))
  pending_above c d v w p = le_lesser laws p (relax_not_below c v w)

  -- the start
  pub relaxing_start : (pending : ℕ → Bool) → ((s : ℕ) → s < m.places → Within K (e s)) → ((s u f : ℕ) → s < m.places → Way m s u f → pending u ≡ false → AtMost K (e s) (sum K (m.state f) (e u))) → Relaxing K m e e pending
  relaxing_start pending within settled = record { above = λ s h. altered_self laws lawful e s h; below = λ s h. at_most_refl laws (e s); within = within; settled = settled }

  -- a turn
  pub relaxing_turn : (v w : ℕ → Length C) (pending pending' : ℕ → Bool) (u : ℕ) → u < m.places → Relaxing K m e v pending → Relaxes K m u v w pending pending' → Relaxing K m e w pending'
  relaxing_turn v w pending pending' u hu inv turn = record {
    above = λ s h. rw (turn.lowered s h) (le_lesser laws (inv.above s h) (altered_cut v s u h (inv.above u hu)));
    below = λ s h. at_most_trans laws (rw (turn.lowered s h) (lesser_left laws (v s) (cut_length K (sum K (step K m s u) (v u))))) (inv.below s h);
    within = λ s h. rw (turn.lowered s h) (within_lesser laws (inv.within s h) (cut_length_within laws (sum K (step K m s u) (v u))));
    settled = λ s x f h way idle.
        let hx = lawful.way_place s x f way in
        let kept = turn.waits x hx idle in
        rw kept.0 (⊎_elim
        (λ same. through s x f h way same)
        (λ settled. at_most_trans laws (rw (turn.lowered s h) (lesser_left laws (v s) (cut_length K (sum K (step K m s u) (v u))))) (inv.settled s x f h way settled))
        kept.1);
  }
    where
      through : (s x f : ℕ) → s < m.places → Way m s x f → x ≡ u → AtMost K (w s) (sum K (m.state f) (v x))
      through s x f h way same = rw (turn.lowered s h) (at_most_trans laws (lesser_right laws (v s) (cut_length K (sum K (step K m s u) (v u)))) (at_most_trans laws (cut_length_le laws (sum K (step K m s u) (v u))) (rw same (sum_left laws (v u) (step_way laws m s u f (subst (λ y. Way m s y f) same way))))))

  -- the end
  pub relaxing_end : (v : ℕ → Length C) (pending : ℕ → Bool) → ((s : ℕ) → s < m.places → pending s ≡ false) → Relaxing K m e v pending → (s : ℕ) → s < m.places → v s ≡ altered K m e s
  relaxing_end v pending idle inv s h = at_most_antisym laws (altered_greatest v (λ s u f c h w o. subst (λ x. AtMost K (v s) (sum K x (v u))) o (inv.settled s u f h w (idle u (lawful.way_place s u f w)))) inv.within inv.below s h) (inv.above s h)
