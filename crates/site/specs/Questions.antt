-- What a site answers, by its meaning. Assumes nothing.
use Rattle.std.specs.Prelude.{◌≡◌, ℕ, ◌<◌, ◌≤◌, Bool, cond, ◌&&◌, length, Some, None, Option, nat_lt, slice_index_or}
use Rattle.cost.specs.Costs.{Kind}
use Rattle.cost.specs.declared.lengths.Length.{Length}
use Rattle.routes.specs.Sites.{Meaning, set_segment, allowed}
use Rattle.site.specs.declared.Way.{Way as WayOut}

-- an answer where the number is in range, else absent
abbrev pub in_range : {X : Type 0} → ℕ → ℕ → X → Option X
in_range i n x = cond (nat_lt i n) (Some x) None

module _ {C : Type 0} (m : Meaning C) where
  -- the way out of place p at index i; absent where p is no place or has no more than i ways
  abbrev pub WayAt : ℕ → ℕ → Option WayOut → Type 0
  WayAt p i (Some w) = (p < m.places) × (i < length (m.ways p)) × (slice_index_or (m.ways p) i (0, 0) ≡ (w.end, w.segment))
  WayAt p i None = p < m.places → length (m.ways p) ≤ i

  abbrev pub state_of : ℕ → Option (Length C)
  state_of f = in_range f m.segments (m.state f)

  abbrev pub floor_of : ℕ → Option C
  floor_of f = in_range f m.segments (m.floor f)

  abbrev pub settable_of : ℕ → Option Bool
  settable_of f = in_range f m.segments (m.settable f)

  abbrev pub hint_of : ℕ → ℕ → Option C
  hint_of s t = cond (nat_lt s m.places) (in_range t m.places (m.hint s t)) None

module _ {C : Type 0} (K : Kind C) (m : Meaning C) (f : ℕ) (x : Length C) where
  -- can segment f be set to x: does it exist, can it be set, and is x closed or a segment cost not under its floor?
  abbrev pub can_set : Bool
  can_set = nat_lt f m.segments && m.settable f && allowed K (m.floor f) x

  -- the site after that setting, done or refused
  abbrev pub after_set : Meaning C
  after_set = cond can_set (set_segment m f x) m
