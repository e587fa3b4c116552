-- The theorems, for a cost kind K. Each holds of every site that keeps the rules.
use Rattle.std.specs.Prelude.{◌≡◌, Bool, true, false, List, ℕ, ◌-◌, ◌≤◌, ◌<◌, length}
use Rattle.cost.specs.declared.lengths.Length.{Length}
use Rattle.cost.specs.declared.lengths.Length.TheVariants.{Finite, Infinite}
use Rattle.cost.specs.Costs.{Kind, Segments, total}
use Rattle.cost.specs.Lengths.{AtMost, Within, sum, origin}
use Rattle.routes.specs.Sites.{Meaning, Way, Lawful, set_segment, allowed}
use Rattle.routes.specs.Routes.{route_cost, distance, Route, Distance}
use Rattle.routes.specs.Estimates.{Consistent, Hinted, opened, altered, retargeted, searched, Sound}
use Rattle.routes.specs.Loops.{Relaxing, Relaxes, Searching, Least, Expands, Linked, Relinks, Opening, Along, Outcome}

module _ {C : Type 0} (K : Kind C) where
  -- the computed distance is the least cost of a route
  abbrev pub DistanceExists : Type 0
  DistanceExists = (m : Meaning C) → Lawful K m → (s t : ℕ) → s < m.places → Distance K m s t (distance K m s t)

  -- and there is only one
  abbrev pub DistanceUnique : Type 0
  DistanceUnique = (m : Meaning C) → Lawful K m → (s t : ℕ) (d e : Length C) → Distance K m s t d → Distance K m s t e → d ≡ e

  -- it is infinite exactly where there is no route
  abbrev pub DistanceInfiniteWithoutRoute : Type 0
  DistanceInfiniteWithoutRoute = (m : Meaning C) → Lawful K m → (s t : ℕ) → s < m.places → ((ps : List ℕ) → Route m s t ps → distance K m s t ≡ Infinite → ⊥) × (((ps : List ℕ) → Route m s t ps → ⊥) → distance K m s t ≡ Infinite)

  -- a distance is a sum of at most places − 1 segment costs
  abbrev pub DistanceSumsSegments : Type 0
  DistanceSumsSegments = (m : Meaning C) → Lawful K m → (s t : ℕ) (c : C) → distance K m s t ≡ Finite c → (cs : List C) × Segments K cs × (length cs ≤ m.places - 1) × (c ≡ total K cs)

  -- so it lies within the ceiling
  abbrev pub DistanceWithin : Type 0
  DistanceWithin = (m : Meaning C) → Lawful K m → (s t : ℕ) → Within K (distance K m s t)

  -- a sound estimate is at most the distance to the target
  abbrev pub SoundAtMostDistance : Type 0
  SoundAtMostDistance = (m : Meaning C) → Lawful K m → (target : ℕ) (e : ℕ → Length C) → Sound K m target e → (s : ℕ) → s < m.places → AtMost K (e s) (distance K m s target)

  -- and at most the cost of any route plus the estimate at its end
  abbrev pub SoundAtMostRoute : Type 0
  SoundAtMostRoute = (m : Meaning C) → Lawful K m → (target : ℕ) (e : ℕ → Length C) → Sound K m target e → (s t : ℕ) (ps : List ℕ) → s < m.places → Route m s t ps → AtMost K (e s) (sum K (route_cost K m s ps) (e t))

  -- so the hint is at most the distance
  abbrev pub HintAtMostDistance : Type 0
  HintAtMostDistance = (m : Meaning C) → Lawful K m → (s t : ℕ) → s < m.places → t < m.places → AtMost K (Finite (m.hint s t)) (distance K m s t)

  -- Each call leaves estimates that are sound and not under the hint. The hints are so themselves.
  abbrev pub OpenIsSound : Type 0
  OpenIsSound = (m : Meaning C) → Lawful K m → (target : ℕ) → target < m.places → Sound K m target (opened K m target) × Hinted K m target (opened K m target)

  -- alter, on the changed site, whether a cost fell or rose or the segment closed or opened
  abbrev pub AlterKeepsSound : Type 0
  AlterKeepsSound = (m : Meaning C) (f : ℕ) (x : Length C) → let changed = set_segment m f x in Lawful K changed → (target : ℕ) (e : ℕ → Length C) → target < m.places → Sound K m target e → Hinted K m target e → Sound K changed target (altered K changed e) × Hinted K changed target (altered K changed e)

  -- retarget, for the new target
  abbrev pub RetargetKeepsSound : Type 0
  RetargetKeepsSound = (m : Meaning C) → Lawful K m → (target n : ℕ) (e : ℕ → Length C) → n < m.places → Sound K m target e → Sound K m n (retargeted K m n e) × Hinted K m n (retargeted K m n e)

  -- search, wherever it starts
  abbrev pub SearchKeepsSound : Type 0
  SearchKeepsSound = (m : Meaning C) → Lawful K m → (start target : ℕ) (e : ℕ → Length C) → start < m.places → Sound K m target e → Hinted K m target e → Sound K m target (searched K m start target e) × Hinted K m target (searched K m start target e)

  -- a site keeps the rules when a segment is set to what is allowed
  abbrev pub SettingKeepsRules : Type 0
  SettingKeepsRules = (m : Meaning C) → Lawful K m → (f : ℕ) (x : Length C) → allowed K (m.floor f) x ≡ true → Lawful K (set_segment m f x)

  -- The estimates after alter, here on the changed site m, are consistent,
  abbrev pub AlterConsistent : Type 0
  AlterConsistent = (m : Meaning C) → Lawful K m → (e : ℕ → Length C) → Consistent K m (altered K m e)

  -- within the ceiling,
  abbrev pub AlterWithin : Type 0
  AlterWithin = (m : Meaning C) → Lawful K m → (e : ℕ → Length C) (s : ℕ) → s < m.places → Within K (altered K m e s)

  -- and not above the old ones;
  abbrev pub AlterNotAbove : Type 0
  AlterNotAbove = (m : Meaning C) → Lawful K m → (e : ℕ → Length C) (s : ℕ) → s < m.places → AtMost K (altered K m e s) (e s)

  -- and they are the greatest that are all three
  abbrev pub AlterGreatest : Type 0
  AlterGreatest = (m : Meaning C) → Lawful K m → (e v : ℕ → Length C) → Consistent K m v → ((s : ℕ) → s < m.places → Within K (v s)) → ((s : ℕ) → s < m.places → AtMost K (v s) (e s)) → (s : ℕ) → s < m.places → AtMost K (v s) (altered K m e s)

  -- where the segment's new state is not under its old one, alter changes no sound estimate
  abbrev pub AlterUnchanged : Type 0
  AlterUnchanged = (m : Meaning C) (f : ℕ) (x : Length C) → let changed = set_segment m f x in Lawful K changed → (target : ℕ) (e : ℕ → Length C) → Sound K m target e → AtMost K (m.state f) x → (s : ℕ) → s < m.places → altered K changed e s ≡ e s

  -- The correction begins with the old estimates, where every way into a place that is not pending is consistent.
  abbrev pub RelaxationStart : Type 0
  RelaxationStart = (m : Meaning C) → Lawful K m → (e : ℕ → Length C) (pending : ℕ → Bool) → ((s : ℕ) → s < m.places → Within K (e s)) → ((s u f : ℕ) → s < m.places → Way m s u f → pending u ≡ false → AtMost K (e s) (sum K (m.state f) (e u))) → Relaxing K m e e pending

  -- a turn keeps what holds, whichever place is taken
  abbrev pub RelaxationTurn : Type 0
  RelaxationTurn = (m : Meaning C) → Lawful K m → (e v w : ℕ → Length C) (pending pending' : ℕ → Bool) (u : ℕ) → u < m.places → Relaxing K m e v pending → Relaxes K m u v w pending pending' → Relaxing K m e w pending'

  -- and once nothing is pending the values are the estimates after alter
  abbrev pub RelaxationEnd : Type 0
  RelaxationEnd = (m : Meaning C) → Lawful K m → (e v : ℕ → Length C) (pending : ℕ → Bool) → ((s : ℕ) → s < m.places → pending s ≡ false) → Relaxing K m e v pending → (s : ℕ) → s < m.places → v s ≡ altered K m e s

  -- The search begins with nothing marked and only the start found.
  abbrev pub SearchStart : Type 0
  SearchStart = (m : Meaning C) → Lawful K m → (start : ℕ) → start < m.places → (g : ℕ → Length C) (marked : ℕ → Bool) → g start ≡ origin K → ((s : ℕ) → s < m.places → (s ≡ start → ⊥) → g s ≡ Infinite) → ((s : ℕ) → s < m.places → marked s ≡ false) → Searching K m start g marked

  -- a place with the least sum, if that is a cost, has its distance
  abbrev pub SearchTakes : Type 0
  SearchTakes = (m : Meaning C) → Lawful K m → (start : ℕ) → start < m.places → (e : ℕ → Length C) → Consistent K m e → (g : ℕ → Length C) (marked : ℕ → Bool) → Searching K m start g marked → (x : ℕ) (c : C) → Least K m e g marked x → sum K (g x) (e x) ≡ Finite c → g x ≡ distance K m start x

  -- a turn at such a place keeps what holds
  abbrev pub SearchTurn : Type 0
  SearchTurn = (m : Meaning C) → Lawful K m → (start : ℕ) → start < m.places → (g h : ℕ → Length C) (marked marked' : ℕ → Bool) (x : ℕ) → x < m.places → g x ≡ distance K m start x → Searching K m start g marked → Expands K m x g h marked marked' → Searching K m start h marked'

  -- and marks no place that the search must not open
  abbrev pub OpeningTurn : Type 0
  OpeningTurn = (m : Meaning C) → Lawful K m → (start target : ℕ) → start < m.places → target < m.places → (e : ℕ → Length C) → Sound K m target e → (g h : ℕ → Length C) (marked marked' : ℕ → Bool) (x : ℕ) (c : C) → Searching K m start g marked → Least K m e g marked x → sum K (g x) (e x) ≡ Finite c → (x ≡ target → ⊥) → Expands K m x g h marked marked' → Opening K m start target e marked → Opening K m start target e marked'

  -- the target, once it has the least sum, has the answer
  abbrev pub SearchAnswerAtTarget : Type 0
  SearchAnswerAtTarget = (m : Meaning C) → Lawful K m → (start : ℕ) → start < m.places → (target : ℕ) (e : ℕ → Length C) → Sound K m target e → (g : ℕ → Length C) (marked : ℕ → Bool) → Searching K m start g marked → Least K m e g marked target → g target ≡ distance K m start target

  -- there is no route where the target is not marked and no place that is not marked has a sum
  abbrev pub SearchNone : Type 0
  SearchNone = (m : Meaning C) → Lawful K m → (start : ℕ) → start < m.places → (target : ℕ) (e : ℕ → Length C) → target < m.places → Sound K m target e → (g : ℕ → Length C) (marked : ℕ → Bool) → Searching K m start g marked → marked target ≡ false → ((y : ℕ) → y < m.places → marked y ≡ false → sum K (g y) (e y) ≡ Infinite) → distance K m start target ≡ Infinite

  -- at the end a place that is not marked has a sum of at least the answer, and its estimate stays
  abbrev pub SearchKept : Type 0
  SearchKept = (m : Meaning C) → Lawful K m → (start : ℕ) → start < m.places → (e : ℕ → Length C) → Consistent K m e → (g : ℕ → Length C) (marked : ℕ → Bool) → Searching K m start g marked → (target : ℕ) → ((y : ℕ) → y < m.places → marked y ≡ false → AtMost K (distance K m start target) (sum K (g y) (e y))) → (s : ℕ) → s < m.places → marked s ≡ false → AtMost K (distance K m start target) (sum K (distance K m start s) (e s)) × (searched K m start target e s ≡ e s)

  -- a turn keeps the links
  abbrev pub LinksTurn : Type 0
  LinksTurn = (m : Meaning C) → Lawful K m → (start : ℕ) → start < m.places → (g h : ℕ → Length C) (marked marked' : ℕ → Bool) (link link' : ℕ → ℕ) (x : ℕ) → x < m.places → g x ≡ distance K m start x → Searching K m start g marked → Expands K m x g h marked marked' → Linked K m start g marked link → Relinks K m x g h link link' → Linked K m start h marked' link'

  -- The links lead back to the start: along a route of the cost found, with fewer steps than there are places. Here segments must cost more than zero.
  abbrev pub LinksRoute : Type 0
  LinksRoute = (m : Meaning C) → Lawful K m → (start : ℕ) → start < m.places → (g : ℕ → Length C) (marked : ℕ → Bool) (link : ℕ → ℕ) → g start ≡ origin K → Linked K m start g marked link → (s : ℕ) (c : C) → s < m.places → g s ≡ Finite c → (ps : List ℕ) × Route m start s ps × (length ps < m.places) × (route_cost K m start ps ≡ g s) × Along marked start ps

  -- what a search leaves when the target has the least sum
  abbrev pub SearchFound : Type 0
  SearchFound = (m : Meaning C) → Lawful K m → (start target : ℕ) → start < m.places → target < m.places → (e : ℕ → Length C) → Sound K m target e → (g : ℕ → Length C) (marked : ℕ → Bool) (link : ℕ → ℕ) → Searching K m start g marked → Linked K m start g marked link → Opening K m start target e marked → Least K m e g marked target → Outcome K m start target e g marked link

  -- and when no place that is not marked has a sum
  abbrev pub SearchExhausted : Type 0
  SearchExhausted = (m : Meaning C) → Lawful K m → (start target : ℕ) → start < m.places → target < m.places → (e : ℕ → Length C) → Sound K m target e → (g : ℕ → Length C) (marked : ℕ → Bool) (link : ℕ → ℕ) → Searching K m start g marked → Linked K m start g marked link → Opening K m start target e marked → ((y : ℕ) → y < m.places → marked y ≡ false → sum K (g y) (e y) ≡ Infinite) → Outcome K m start target e g marked link
