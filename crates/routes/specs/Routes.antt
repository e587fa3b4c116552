-- Routes, their costs, and distances. In the field's terms: paths, path costs and shortest distances.
use Rattle.std.specs.Prelude.{◌≡◌, cond, List, [], ◌∷◌, ℕ, zero, suc, ◌-◌, nat_eq}
use Rattle.cost.specs.declared.lengths.Length.{Length}
use Rattle.cost.specs.declared.lengths.Length.TheVariants.{Finite, Infinite}
use Rattle.cost.specs.Costs.{Kind}
use Rattle.cost.specs.Lengths.{AtMost, sum, origin, lesser, least}
use Rattle.routes.specs.Sites.{Meaning, Way}

-- an open way from s to u: one whose segment is not closed
pub record OpenWay {C : Type 0} (m : Meaning C) (s u : ℕ) : Type 0 where
  pub segment : ℕ
  pub cost : C
  pub way : Way m s u segment
  pub opened : m.state segment ≡ Finite cost

-- a route from s to t: s, then the places of the list, with an open way from each to the next
abbrev pub Route : {C : Type 0} → Meaning C → ℕ → ℕ → List ℕ → Type 0
Route m s t [] = s ≡ t
Route m s t (u ∷ ps) = OpenWay m s u × Route m u t ps

module _ {C : Type 0} (K : Kind C) (m : Meaning C) where
  -- what a way out of a place costs as a step to u: infinite if it ends elsewhere
  abbrev pub way_to : ℕ → ℕ × ℕ → Length C
  way_to u w = cond (nat_eq w.0 u) (m.state w.1) Infinite

  -- the cost of a step from s to u: that of the cheapest open way; infinite where there is none
  unfoldable pub step : ℕ → ℕ → Length C
  step s u = least K (way_to u) (m.ways s)

  -- the cost of the route that begins at s and goes on by the places of the list; a route of one place costs zero
  abbrev pub route_cost : ℕ → List ℕ → Length C
  route_cost s [] = origin K
  route_cost s (u ∷ ps) = sum K (step s u) (route_cost u ps)

  -- the least cost of a route of no steps
  abbrev pub distance_stay : ℕ → ℕ → Length C
  distance_stay s t = cond (nat_eq s t) (origin K) Infinite

  -- the least cost of a route from s to t of at most k steps
  unfoldable pub distance_by : ℕ → ℕ → ℕ → Length C
  distance_by zero s t = distance_stay s t
  distance_by (suc k) s t = lesser K (distance_stay s t) (least K (λ w. sum K (m.state w.1) (distance_by k w.0 t)) (m.ways s))

  -- the distance, as a value that computes: some cheapest route has fewer steps than there are places
  unfoldable pub distance : ℕ → ℕ → Length C
  distance s t = distance_by (m.places - 1) s t

-- d is the distance from s to t: the least cost of a route, or infinite where there is none
pub record Distance {C : Type 0} (K : Kind C) (m : Meaning C) (s t : ℕ) (d : Length C) : Type 0 where
  pub attained : (c : C) → d ≡ Finite c → (ps : List ℕ) × Route m s t ps × (route_cost K m s ps ≡ d)
  pub least_cost : (ps : List ℕ) → Route m s t ps → AtMost K d (route_cost K m s ps)
