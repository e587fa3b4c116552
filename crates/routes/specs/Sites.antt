-- What a site means, and the rules that it keeps. In the field's terms: a directed graph whose edges are the ways, with changing costs.
use Rattle.std.specs.Prelude.{◌≡◌, Bool, true, cond, ◌&&◌, ℕ, ◌≤◌, ◌<◌, nat_eq, length}
use mathlib.Core.List.{List, Memᴰ}
use Rattle.cost.specs.declared.lengths.Length.{Length}
use Rattle.cost.specs.declared.lengths.Length.TheVariants.{Finite, Infinite}
use Rattle.cost.specs.Costs.{Kind}

-- What a site means. Places and segments are numbered from 0.
pub record Meaning (C : Type 0) : Type 0 where
  pub places : ℕ
  pub segments : ℕ
  -- the ways out of a place, each with the place it ends at and the segment it uses
  pub ways : ℕ → List (ℕ × ℕ)
  -- the least cost that a segment may be set to
  pub floor : ℕ → C
  -- the present cost of a segment; infinite while it is closed
  pub state : ℕ → Length C
  -- can the segment be set?
  pub settable : ℕ → Bool
  -- hint s t is a cost that no route from s to t is under
  pub hint : ℕ → ℕ → C

-- how many places a site may have
abbrev pub most_places : ℕ
most_places = 4_096

-- how many segments
abbrev pub most_segments : ℕ
most_segments = 16_384

-- how many ways out of one place
abbrev pub most_ways : ℕ
most_ways = 64

-- a way from s to u over the segment f, open or closed
abbrev pub Way : {C : Type 0} → Meaning C → ℕ → ℕ → ℕ → Type 0
Way m s u f = Memᴰ (u, f) (m.ways s)

-- The rules that every site keeps.
pub record Lawful {C : Type 0} (K : Kind C) (m : Meaning C) : Type 0 where
  pub places_some : 1 ≤ m.places
  pub places_few : m.places ≤ most_places
  pub segments_few : m.segments ≤ most_segments
  pub ways_few : (s : ℕ) → length (m.ways s) ≤ most_ways
  -- a way ends at a place and uses a segment
  pub way_place : (s u f : ℕ) → Way m s u f → u < m.places
  pub way_segment : (s u f : ℕ) → Way m s u f → f < m.segments
  -- floor and state are segment costs, and no state is under the floor
  pub floor_segment : (f : ℕ) → f < m.segments → K.segment (m.floor f) ≡ true
  pub state_segment : (f : ℕ) (c : C) → f < m.segments → m.state f ≡ Finite c → K.segment c ≡ true
  pub state_floor : (f : ℕ) (c : C) → f < m.segments → m.state f ≡ Finite c → K.le (m.floor f) c ≡ true
  pub hint_within : (s t : ℕ) → s < m.places → t < m.places → K.within (m.hint s t) ≡ true
  -- from a place to itself the hint is zero
  pub hint_self : (t : ℕ) → t < m.places → m.hint t t ≡ K.zero
  -- hint(s, t) ≤ floor(f) + hint(u, t) for each way from s to u over f
  pub hint_way : (s u f t : ℕ) → s < m.places → t < m.places → Way m s u f → K.le (m.hint s t) (K.add (m.floor f) (m.hint u t)) ≡ true

-- the site with the segment f set to x; nothing else changes
abbrev pub set_segment : {C : Type 0} → Meaning C → ℕ → Length C → Meaning C
set_segment m f x = record {
  places = m.places;
  segments = m.segments;
  ways = m.ways;
  floor = m.floor;
  state = λ g. cond (nat_eq g f) x (m.state g);
  settable = m.settable;
  hint = m.hint;
}

-- May a segment with this floor be set so: closed, or to a segment cost not under the floor?
abbrev pub allowed : {C : Type 0} → Kind C → C → Length C → Bool
allowed K floor (Finite c) = K.segment c && K.le floor c
allowed K floor Infinite = true
