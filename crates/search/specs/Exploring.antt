-- What holds while places are opened. Assumes nothing.
use Rattle.std.specs.Prelude.{◌≡◌, ℕ, ◌<◌, ◌≤◌, true, false, ◌⊎◌, List, length, slice_index_or, slice_set}
use Rattle.cost.specs.declared.lengths.Length.{Length}
use Rattle.cost.specs.declared.lengths.Length.TheVariants.{Infinite}
use Rattle.cost.specs.Costs.{Kind}
use Rattle.cost.specs.Lengths.{Within, length_le, sum, lesser, least, origin}
use Rattle.routes.specs.Sites.{Meaning, Way}
use Rattle.routes.specs.Routes.{way_to, distance}
use Rattle.routes.specs.Loops.{Searching, Linked, Opening, Outcome}
use Rattle.routes.specs.Counts.{count}
use Rattle.sheet.specs.declared.Entry.{Entry}
use Rattle.sheet.specs.Sheets.{blank, estimate_of, distance_of, link_of, mark_of, sum_of, by_sum, Summable}
use Rattle.queue.specs.declared.Queue.{Queue}
use Rattle.queue.specs.Queues.{Queued, Ordered, Same}

-- a sheet of the site's places, with estimates within the ceiling, and a queue of some of them with room for all
pub record Ready {C : Type 0} (K : Kind C) (m : Meaning C) (sheet : List (Entry C)) (q : Queue) : Type 0 where
  pub long : length sheet ≡ m.places
  pub room : m.places ≤ length q.places.now
  pub estimates : (s : ℕ) → s < m.places → Within K (estimate_of sheet s)
  pub ordered : Ordered (Summable K sheet) (by_sum K sheet) q

-- a distance by way of x that is less than what was found before is within the ceiling
abbrev pub Improves : {C : Type 0} → Kind C → Meaning C → List (Entry C) → ℕ → Type 0
Improves K m sheet x = (u f : ℕ) → Way m x u f → length_le K (distance_of sheet u) (sum K (distance_of sheet x) (m.state f)) ≡ false → Within K (sum K (distance_of sheet x) (m.state f))

-- the ends of the ways ws out of x were offered a distance through it
pub record Swept {C : Type 0} (K : Kind C) (m : Meaning C) (x : ℕ) (ws : List (ℕ × ℕ)) (sheet after : List (Entry C)) (q r : Queue) : Type 0 where
  pub distance : (s : ℕ) → distance_of after s ≡ lesser K (distance_of sheet s) (sum K (distance_of sheet x) (least K (way_to K m s) ws))
  pub link : (s : ℕ) → ((distance_of after s ≡ distance_of sheet s) × (link_of after s ≡ link_of sheet s)) ⊎ ((distance_of after s ≡ sum K (distance_of sheet x) (least K (way_to K m s) ws)) × (link_of after s ≡ x))
  pub estimate : (s : ℕ) → estimate_of after s ≡ estimate_of sheet s
  pub mark : (s : ℕ) → mark_of after s ≡ mark_of sheet s
  pub same : Same q r
  pub ordered : Ordered (Summable K after) (by_sum K after) r
  pub old : (y : ℕ) → Queued q y → Queued r y
  pub only : (y : ℕ) → Queued r y → Queued q y ⊎ (length_le K (distance_of sheet y) (distance_of after y) ≡ false)
  pub new : (y : ℕ) → (distance_of after y ≡ distance_of sheet y) ⊎ ((estimate_of after y ≡ Infinite) ⊎ Queued r y)

abbrev pub with_mark : {C : Type 0} → Entry C → Entry C
with_mark t = record { estimate = t.estimate; distance = t.distance; link = t.link; mark = true }

-- a place is marked
abbrev pub mark_place : {C : Type 0} → List (Entry C) → ℕ → List (Entry C)
mark_place sheet p = slice_set sheet p (with_mark (slice_index_or sheet p blank))

-- no place has a distance or a mark yet
pub record Fresh {C : Type 0} (sheet : List (Entry C)) : Type 0 where
  pub distance : (s : ℕ) → distance_of sheet s ≡ Infinite
  pub mark : (s : ℕ) → mark_of sheet s ≡ false

-- What holds before each opening; the queue has the places that are not opened and have a sum.
pub record Exploring {C : Type 0} (K : Kind C) (m : Meaning C) (start target : ℕ) (e : ℕ → Length C) (sheet : List (Entry C)) (q : Queue) (opened : ℕ) : Type 0 where
  pub searching : Searching K m start (distance_of sheet) (mark_of sheet)
  pub linked : Linked K m start (distance_of sheet) (mark_of sheet) (link_of sheet)
  pub opening : Opening K m start target e (mark_of sheet)
  pub estimates : (s : ℕ) → estimate_of sheet s ≡ e s
  pub ordered : Ordered (Summable K sheet) (by_sum K sheet) q
  pub unopened : (y : ℕ) → Queued q y → mark_of sheet y ≡ false
  pub waiting : (y : ℕ) → y < m.places → mark_of sheet y ≡ false → (sum_of K sheet y ≡ Infinite) ⊎ Queued q y
  pub counted : opened ≡ count (mark_of sheet) m.places

-- What holds when the last place was opened.
pub record Explored {C : Type 0} (K : Kind C) (m : Meaning C) (start target : ℕ) (e : ℕ → Length C) (sheet : List (Entry C)) (opened : ℕ) : Type 0 where
  pub outcome : Outcome K m start target e (distance_of sheet) (mark_of sheet) (link_of sheet)
  pub answer : distance_of sheet target ≡ distance K m start target
  pub at_start : distance_of sheet start ≡ origin K
  pub linked : Linked K m start (distance_of sheet) (mark_of sheet) (link_of sheet)
  pub estimates : (s : ℕ) → estimate_of sheet s ≡ e s
  pub counted : opened ≡ count (mark_of sheet) m.places
