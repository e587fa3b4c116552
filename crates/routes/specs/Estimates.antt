-- Estimates (h-values): for each place a length that no route from it to the target is under; and what each call makes of them.
use Rattle.std.specs.Prelude.{◌≡◌, ℕ, ◌<◌}
use Rattle.cost.specs.declared.lengths.Length.{Length}
use Rattle.cost.specs.declared.lengths.Length.TheVariants.{Finite}
use Rattle.cost.specs.Costs.{Kind}
use Rattle.cost.specs.Lengths.{AtMost, Within, sum, remainder, cut_length, greater, origin, least_below}
use Rattle.routes.specs.Sites.{Meaning, Way}
use Rattle.routes.specs.Routes.{distance}

module _ {C : Type 0} (K : Kind C) (m : Meaning C) where
  -- consistent: estimate(s) ≤ c + estimate(u) for each open way from s to u at cost c
  abbrev pub Consistent : (ℕ → Length C) → Type 0
  Consistent e = (s u f : ℕ) (c : C) → s < m.places → Way m s u f → m.state f ≡ Finite c → AtMost K (e s) (sum K (Finite c) (e u))

  -- no estimate is under the hint
  abbrev pub Hinted : ℕ → (ℕ → Length C) → Type 0
  Hinted target e = (s : ℕ) → s < m.places → AtMost K (Finite (m.hint s target)) (e s)

  -- after open: the hints
  abbrev pub opened : ℕ → ℕ → Length C
  opened target s = Finite (m.hint s target)

  -- the least, over all places t, of distance(s, t) + estimate(t)
  abbrev pub least_through : (ℕ → Length C) → ℕ → Length C
  least_through e s = least_below K (λ t. sum K (distance K m s t) (e t)) m.places

  -- after alter, on the changed site: that least, cut at the ceiling
  unfoldable pub altered : (ℕ → Length C) → ℕ → Length C
  altered e s = cut_length K (least_through e s)

  -- after retarget to n: the greater of hint(s, n) and (estimate(s) less estimate(n))
  unfoldable pub retargeted : ℕ → (ℕ → Length C) → ℕ → Length C
  retargeted n e s = greater K (Finite (m.hint s n)) (remainder K (e s) (e n))

  -- after search: the greater of the estimate and (answer less distance(start, s)), where the answer is distance(start, target)
  unfoldable pub searched : ℕ → ℕ → (ℕ → Length C) → ℕ → Length C
  searched start target e s = greater K (e s) (remainder K (distance K m start target) (distance K m start s))

-- Sound estimates: zero at the target, within the ceiling, and consistent.
pub record Sound {C : Type 0} (K : Kind C) (m : Meaning C) (target : ℕ) (e : ℕ → Length C) : Type 0 where
  pub target_zero : e target ≡ origin K
  pub within : (s : ℕ) → s < m.places → Within K (e s)
  pub consistent : Consistent K m e
