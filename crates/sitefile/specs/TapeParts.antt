-- What the parts of a tape's reader come to. Assumes nothing.
use Rattle.std.specs.Prelude.{◌≡◌, ℕ, ◌+◌, ◌*◌, ◌/◌, ◌<◌, ◌≤◌, List, [], ◌∷◌, ◌++◌, length, drop, slice_index_or, Option, Some, None}
use Rattle.tables.specs.declared.tape.Place.{Place}
use Rattle.tables.specs.declared.tape.Lane.{Lane}
use Rattle.tables.specs.Tapes.{most_leaving, place_at, leaving}
use Rattle.sitefile.specs.declared.reader.Reader.{Reader}
use Rattle.sitefile.specs.declared.places.PlaceIndex.{PlaceIndex}
use Rattle.sitefile.specs.declared.lane_run.LaneRun.{LaneRun}
use Rattle.sitefile.specs.Readers.{ahead}
use Rattle.sitefile.specs.Records.{encode_all, AllAllowed, Walked}
use Rattle.sitefile.specs.Tapes.{places, last_from, lanes}

-- the places of an index: every 64th of them begins where one of its readers stands
pub record PlacesAt (ps : List Place) (index : PlaceIndex) : Type 0 where
  pub counted : length ps ≡ index.count
  pub all_allowed : AllAllowed places [] ps
  pub rest : List ℕ
  pub found : (k : ℕ) (r : Reader) → 64 * k < length ps → ahead (slice_index_or index.starts.items k r) ≡ encode_all places (drop (64 * k) ps) rest

-- `count` places were walked over, and every 64th of them begins where one of the readers stands
pub record PlacesWalked (count : ℕ) (from to : Reader) (starts : List Reader) : Type 0 where
  pub walk : Walked places count from to
  pub noted : length starts ≡ (count + 63) / 64
  pub found : (k : ℕ) (r : Reader) → 64 * k < count → ahead (slice_index_or starts k r) ≡ encode_all places (drop (64 * k) walk.values) (ahead to)

-- `count` places were walked over, and they are those of the index
pub record PlacesFound (count : ℕ) (from to : Reader) (index : PlaceIndex) : Type 0 where
  pub walk : Walked places count from to
  pub at : PlacesAt walk.values index

-- What the reader keeps of the lanes before: which place the last of them leaves, where that lies, and how many leave it.
pub record LastRun (ps : List Place) (before : List Lane) (run : LaneRun) : Type 0 where
  pub last : run.from ≡ last_from before
  pub counted : run.count ≡ length (leaving run.from 0 before)
  pub located : run.place ≡ place_at ps run.from
  -- no lane before leaves a place above the last one's
  pub sorted : (p : ℕ) → run.from < p → length (leaving p 0 before) ≡ 0

-- or nothing, before the first lane
abbrev pub RunOf : List Place → List Lane → Option LaneRun → Type 0
RunOf ps before None = before ≡ []
RunOf ps before (Some run) = LastRun ps before run

-- a lane comes in order after those before it and is not one too many, and this is the run then
pub record NextRun (ps : List Place) (before : List Lane) (l : Lane) (next : LaneRun) : Type 0 where
  pub in_order : last_from before ≤ l.from
  pub few_before : length (leaving l.from 0 before) < most_leaving
  pub last_run : LastRun ps (before ++ l ∷ []) next

-- `done` lanes were walked over, and the run of the last of them is kept
pub record LanesWalked (count : ℕ) (ps : List Place) (done : ℕ) (from to : Reader) (run : Option LaneRun) : Type 0 where
  pub walk : Walked (lanes count ps) done from to
  pub run_of : RunOf ps walk.values run
