-- The tables that a tape keeps: those that a head counts, or none where they break the rules, and the site that they are. Assumes nothing.
use Rattle.std.specs.Prelude.{◌≡◌, ℕ, ◌+◌, ◌<◌, ◌≤◌, max, List, [], ◌∷◌, map, length, nat_lt}
use Rattle.std.specs.List.{range_with_len}
use Rattle.cost.specs.CrossingsFirst.{pair}
use Rattle.cost.specs.declared.crossings_first.CrossingsFirst.{CrossingsFirst}
use Rattle.routes.specs.Sites.{Meaning}
use Rattle.site.specs.Directories.{Directory}
use Rattle.tables.specs.Tapes.{most_places, most_lanes, larger_difference, place_at, lane_at, leaving, SoundPlaces, SoundLanes}
use Rattle.tables.specs.declared.tape.Place.{Place}
use Rattle.tables.specs.declared.tape.Lane.{Lane}
use Rattle.tape_notes.specs.Noting.{over}
use Rattle.tape.specs.TapeSites.{cost_of, length_of}

module _ (places : List Place) (lanes : List Lane) where
  -- All entries of the tables keep the rules of tapes. There may be none.
  pub record SoundTables : Type 0 where
    pub few_places : length places ≤ most_places
    pub few_lanes : length lanes ≤ most_lanes
    pub places_sound : SoundPlaces (length places) places
    pub lanes_sound : SoundLanes (length places) (length lanes) places lanes

  -- The lanes that leave place p have the numbers from its first one on, as many as it counts. Its entries name lanes.
  pub record NotedPlace (p : ℕ) : Type 0 where
    pub lists : leaving p 0 lanes ≡ map (λ f. over (lane_at lanes f) f) (range_with_len (place_at places p).first (place_at places p).ways)
    pub ways_there : 0 < (place_at places p).ways → (place_at places p).first + (place_at places p).ways ≤ length lanes
    pub entries_there : (place_at places p).entry_first + (place_at places p).entries ≤ length lanes
    pub entered : (i : ℕ) → i < (place_at places p).entries → (lane_at lanes ((place_at places p).entry_first + i)).entering < length lanes

  -- Lane f stands at its slot among the entries of the place where it ends.
  pub record NotedLane (f : ℕ) : Type 0 where
    pub low : (place_at places (lane_at lanes f).to).entry_first ≤ (lane_at lanes f).slot
    pub high : (lane_at lanes f).slot < (place_at places (lane_at lanes f).to).entry_first + (place_at places (lane_at lanes f).to).entries
    pub stands : (lane_at lanes (lane_at lanes f).slot).entering ≡ f

  -- The notes are those of these lanes.
  pub record NotedTables : Type 0 where
    pub each_place : (p : ℕ) → p < length places → NotedPlace p
    pub each_lane : (f : ℕ) → f < length lanes → NotedLane f

  -- The site that the tables describe. Where they have no place, that is one place at (0, 0) with no segment.
  abbrev pub tables_site : Meaning CrossingsFirst
  tables_site = record {
    places = max (length places) 1;
    segments = length lanes;
    ways = λ p. leaving p 0 lanes;
    floor = λ f. cost_of (lane_at lanes f).floor;
    state = λ f. length_of (lane_at lanes f).state;
    settable = λ _. nat_lt 0 (length places);
    hint = λ s t. pair 0 (larger_difference (place_at places s) (place_at places t));
  }

  -- The entries of a place name the lanes that end there, and those the places to look at. The one user of a segment is the place that its lane leaves.
  abbrev pub tables_directory : Directory
  tables_directory = record {
    sources = λ u. map (λ j. (lane_at lanes (lane_at lanes j).entering).from) (range_with_len (place_at places u).entry_first (place_at places u).entries);
    users = λ f. (lane_at lanes f).from ∷ [];
  }
