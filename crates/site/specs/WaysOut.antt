-- The ways out of a place, as a walk over them meets them.
use Rattle.std.specs.Prelude.{ℕ, List, [], cond, drop, map, nat_lt}
use Rattle.routes.specs.Sites.{Meaning}
use Rattle.site.specs.declared.Way.{Way}
use Rattle.site.specs.declared.Ways.{Ways}

-- a way, from the place it ends at and the segment it uses
abbrev pub way_from : ℕ × ℕ → Way
way_from w = record { end = w.0; segment = w.1 }

-- the ways out of place p; none where p is no place
abbrev pub ways_of : {C : Type 0} → Meaning C → ℕ → List Way
ways_of m p = cond (nat_lt p m.places) (map way_from (m.ways p)) []

-- those that a walk has not met yet
abbrev pub ways_left : {C S : Type 0} → (S → Meaning C) → Ways S → List Way
ways_left meaning w = drop w.index (ways_of (meaning w.site.now) w.place)
