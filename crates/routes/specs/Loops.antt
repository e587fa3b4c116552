-- What holds at each turn of the two loops: the correction of estimates after a changed segment, and the search.
use Rattle.std.specs.Prelude.{◌≡◌, Bool, true, false, ◌⊎◌, List, [], ◌∷◌, ℕ, ◌<◌, length}
use Rattle.cost.specs.declared.lengths.Length.{Length}
use Rattle.cost.specs.declared.lengths.Length.TheVariants.{Finite}
use Rattle.cost.specs.Costs.{Kind}
use Rattle.cost.specs.Lengths.{AtMost, Within, length_le, sum, remainder, cut_length, lesser, greater, origin}
use Rattle.routes.specs.Sites.{Meaning, Way}
use Rattle.routes.specs.Routes.{step, route_cost, distance, Route}
use Rattle.routes.specs.Estimates.{altered, searched}

-- The correction: values v on the way from the estimates e to those after alter. A place is pending while the ways into it may be inconsistent.
pub record Relaxing {C : Type 0} (K : Kind C) (m : Meaning C) (e v : ℕ → Length C) (pending : ℕ → Bool) : Type 0 where
  pub above : (s : ℕ) → s < m.places → AtMost K (altered K m e s) (v s)
  pub below : (s : ℕ) → s < m.places → AtMost K (v s) (e s)
  pub within : (s : ℕ) → s < m.places → Within K (v s)
  -- a way into a place that is not pending is consistent
  pub settled : (s u f : ℕ) → s < m.places → Way m s u f → pending u ≡ false → AtMost K (v s) (sum K (m.state f) (v u))

-- A turn of the correction: u is taken, each place is lowered through it, and what was lowered is pending again.
pub record Relaxes {C : Type 0} (K : Kind C) (m : Meaning C) (u : ℕ) (v w : ℕ → Length C) (pending pending' : ℕ → Bool) : Type 0 where
  pub lowered : (s : ℕ) → s < m.places → w s ≡ lesser K (v s) (cut_length K (sum K (step K m s u) (v u)))
  pub waits : (s : ℕ) → s < m.places → pending' s ≡ false → (w s ≡ v s) × ((s ≡ u) ⊎ (pending s ≡ false))

-- The search: g (the g-value) is the least cost found so far from the start. A marked place was opened (expanded): its distance is final, and the ways out of it are relaxed.
pub record Searching {C : Type 0} (K : Kind C) (m : Meaning C) (start : ℕ) (g : ℕ → Length C) (marked : ℕ → Bool) : Type 0 where
  pub at_start : g start ≡ origin K
  pub above : (s : ℕ) → s < m.places → AtMost K (distance K m start s) (g s)
  pub final : (s : ℕ) → s < m.places → marked s ≡ true → g s ≡ distance K m start s
  pub relaxed : (s u f : ℕ) → s < m.places → marked s ≡ true → Way m s u f → AtMost K (g u) (sum K (g s) (m.state f))

-- x is not marked, and none that is not marked has a lesser sum of g and estimate (f-value)
pub record Least {C : Type 0} (K : Kind C) (m : Meaning C) (e g : ℕ → Length C) (marked : ℕ → Bool) (x : ℕ) : Type 0 where
  pub place : x < m.places
  pub unmarked : marked x ≡ false
  pub minimal : (y : ℕ) → y < m.places → marked y ≡ false → AtMost K (sum K (g x) (e x)) (sum K (g y) (e y))

-- A turn of the search: x is marked, and each place is lowered through it.
pub record Expands {C : Type 0} (K : Kind C) (m : Meaning C) (x : ℕ) (g h : ℕ → Length C) (marked marked' : ℕ → Bool) : Type 0 where
  pub lowered : (s : ℕ) → s < m.places → h s ≡ lesser K (g s) (sum K (g x) (step K m x s))
  pub marks : (s : ℕ) → s < m.places → marked' s ≡ true → (s ≡ x) ⊎ (marked s ≡ true)
  pub marked_now : marked' x ≡ true
  pub stays : (s : ℕ) → s < m.places → marked s ≡ true → marked' s ≡ true

-- Each place found but the start has a link (parent): the marked place that its g comes from.
pub record Linked {C : Type 0} (K : Kind C) (m : Meaning C) (start : ℕ) (g : ℕ → Length C) (marked : ℕ → Bool) (link : ℕ → ℕ) : Type 0 where
  pub place : (s : ℕ) (c : C) → s < m.places → (s ≡ start → ⊥) → g s ≡ Finite c → link s < m.places
  pub from_marked : (s : ℕ) (c : C) → s < m.places → (s ≡ start → ⊥) → g s ≡ Finite c → marked (link s) ≡ true
  pub cost : (s : ℕ) (c : C) → s < m.places → (s ≡ start → ⊥) → g s ≡ Finite c → g s ≡ sum K (g (link s)) (step K m (link s) s)

-- A turn: a place keeps its g and its link, or has both through x.
pub record Relinks {C : Type 0} (K : Kind C) (m : Meaning C) (x : ℕ) (g h : ℕ → Length C) (link link' : ℕ → ℕ) : Type 0 where
  pub either : (s : ℕ) → s < m.places → ((h s ≡ g s) × (link' s ≡ link s)) ⊎ ((h s ≡ sum K (g x) (step K m x s)) × (link' s ≡ x))

-- What is marked so far: never the target, and no place whose sum of distance and estimate is above the answer or infinite.
pub record Opening {C : Type 0} (K : Kind C) (m : Meaning C) (start target : ℕ) (e : ℕ → Length C) (marked : ℕ → Bool) : Type 0 where
  pub target_unmarked : marked target ≡ false
  pub at_most_answer : (s : ℕ) → s < m.places → marked s ≡ true → AtMost K (sum K (distance K m start s) (e s)) (distance K m start target)
  pub finite : (s : ℕ) → s < m.places → marked s ≡ true → (c : C) × (sum K (distance K m start s) (e s) ≡ Finite c)

-- each place of the route that begins at s, but the last, is marked
abbrev pub Along : (ℕ → Bool) → ℕ → List ℕ → Type 0
Along marked s [] = Unit {0}
Along marked s (u ∷ ps) = (marked s ≡ true) × Along marked u ps

-- What a search leaves: the answer, the marks, the distances and the links.
pub record Outcome {C : Type 0} (K : Kind C) (m : Meaning C) (start target : ℕ) (e g : ℕ → Length C) (marked : ℕ → Bool) (link : ℕ → ℕ) : Type 0 where
  -- every place is opened whose distance plus estimate is below the answer
  pub opens_below : (s : ℕ) → s < m.places → length_le K (distance K m start target) (sum K (distance K m start s) (e s)) ≡ false → marked s ≡ true
  -- none with a greater sum, none whose sum is infinite, never the target
  pub opens_none_above : (s : ℕ) → s < m.places → marked s ≡ true → AtMost K (sum K (distance K m start s) (e s)) (distance K m start target)
  pub opens_finite : (s : ℕ) → s < m.places → marked s ≡ true → (c : C) × (sum K (distance K m start s) (e s) ≡ Finite c)
  pub target_unmarked : marked target ≡ false
  -- a marked place has its distance, and a link to the place before it on a cheapest route
  pub distances : (s : ℕ) → s < m.places → marked s ≡ true → g s ≡ distance K m start s
  pub links : (s : ℕ) → s < m.places → marked s ≡ true → (s ≡ start → ⊥) → (link s < m.places) × (distance K m start s ≡ sum K (distance K m start (link s)) (step K m (link s) s))
  -- where the answer is a cost, a route of that cost, each place of it marked but the last
  pub route : (c : C) → distance K m start target ≡ Finite c → (ps : List ℕ) × Route m start target ps × (length ps < m.places) × (route_cost K m start ps ≡ distance K m start target) × Along marked start ps
  -- the estimates after it: of a marked place by its g, of any other as before
  pub raised : (s : ℕ) → s < m.places → marked s ≡ true → searched K m start target e s ≡ greater K (e s) (remainder K (distance K m start target) (g s))
  pub kept : (s : ℕ) → s < m.places → marked s ≡ false → searched K m start target e s ≡ e s
