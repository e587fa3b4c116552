-- Where to look for the ways into a place, and for the ways over a segment, so that no correction has to scan a whole site. Assumes nothing.
use Rattle.std.specs.Prelude.{ℕ, ◌<◌, ◌≤◌, cond, List, length, None, Option, ◌≢◌, nat_lt}
use mathlib.Core.List.{Memᴰ}
use Rattle.std.specs.List.{slice_get}
use Rattle.routes.specs.Sites.{Meaning, Way, most_places, most_segments}

pub record Directory : Type 0 where
  -- the places to look at for ways into a place
  pub sources : ℕ → List ℕ
  -- the places to look at for ways over a segment
  pub users : ℕ → List ℕ

-- Each way from one place to another is found from its end and from its segment. It may list places that have no such way, and one twice; a way that leads back to its start need not be found.
pub record Indexed {C : Type 0} (m : Meaning C) (d : Directory) : Type 0 where
  pub sources_few : (u : ℕ) → length (d.sources u) ≤ most_segments
  pub users_few : (f : ℕ) → length (d.users f) ≤ most_places
  pub sources_places : (u s : ℕ) → Memᴰ s (d.sources u) → s < m.places
  pub users_places : (f s : ℕ) → Memᴰ s (d.users f) → s < m.places
  pub source_found : (s u f : ℕ) → s < m.places → Way m s u f → (u ≢ s) → Memᴰ s (d.sources u)
  pub user_found : (s u f : ℕ) → s < m.places → Way m s u f → (u ≢ s) → Memᴰ s (d.users f)

abbrev pub source_of : {C : Type 0} → Meaning C → Directory → ℕ → ℕ → Option ℕ
source_of m d u i = cond (nat_lt u m.places) (slice_get (d.sources u) i) None

abbrev pub user_of : {C : Type 0} → Meaning C → Directory → ℕ → ℕ → Option ℕ
user_of m d f i = cond (nat_lt f m.segments) (slice_get (d.users f) i) None
