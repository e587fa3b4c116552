-- The trip that a planner is opened with. Assumes nothing.
use Rattle.std.specs.Prelude.{ℕ, Bool, ◌&&◌, Option, nat_lt}
use Rattle.std.proofs.lemmas.Map.Entries.{option_filter}
use Rattle.routes.specs.Sites.{Meaning}
use Rattle.planner.specs.declared.Trip.{Trip}
use Rattle.planner.specs.declared.Planner.{Planner}

-- start and target of a trip are among the first n places
abbrev pub has_places : ℕ → Trip → Bool
has_places n t = nat_lt t.start n && nat_lt t.target n

-- the trip of a planner that is opened: it was so by a call, and then its start and target are places
abbrev pub trip_of : {S C : Type 0} → Meaning C → Planner S → Option Trip
trip_of m p = option_filter (has_places m.places) p.trip
