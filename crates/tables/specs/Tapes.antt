-- What may stand in a tape's head, places and lanes. The notes that a tape makes for itself are asked nowhere. Assumes nothing.
use Rattle.std.specs.Prelude.{◌≡◌, ℕ, ◌+◌, ◌<◌, ◌≤◌, max, Bool, true, cond, ◌&&◌, ◌||◌, List, [], ◌∷◌, length, take, ℤ, pos, ◌-ℤ◌, ◌==◌, nat_le, nat_lt, slice_index_or, unsigned_abs}
use Rattle.tables.specs.Floors.{between, longest_segment}
use Rattle.tables.specs.declared.tape.TapeHead.{TapeHead}
use Rattle.tables.specs.declared.tape.Place.{Place}
use Rattle.tables.specs.declared.tape.Lane.{Lane}
use Rattle.tables.specs.declared.tape.LaneCost.{LaneCost}
use Rattle.tables.specs.States.{LaneState}
use Rattle.tables.specs.declared.State.TheVariants.{Closed, Open}

-- how far from (0, 0) a place may lie on each axis, in millimetres
abbrev pub farthest : ℕ
farthest = 30_000

-- how many places a tape may have
abbrev pub most_places : ℕ
most_places = 4_096

-- how many lanes
abbrev pub most_lanes : ℕ
most_lanes = 8_192

-- how many lanes may leave one place
abbrev pub most_leaving : ℕ
most_leaving = 64

-- how many crossings a lane may have
abbrev pub most_crossings : ℕ
most_crossings = 100

-- a coordinate: −30,000 to 30,000
abbrev pub is_coordinate : ℤ → Bool
is_coordinate z = nat_le (unsigned_abs z) farthest

-- are both coordinates of a place in range?
abbrev pub is_place : Place → Bool
is_place p = is_coordinate p.x && is_coordinate p.y

-- the larger of the two places' coordinate differences, without sign
abbrev pub larger_difference : Place → Place → ℕ
larger_difference p q = max (unsigned_abs (p.x -ℤ q.x)) (unsigned_abs (p.y -ℤ q.y))

-- a lane's cost: 0 to 100 crossings, and 1 to 1,000,000 milliseconds
abbrev pub is_lane_cost : LaneCost → Bool
is_lane_cost c = nat_le c.crossings most_crossings && between 1 longest_segment c.milliseconds

-- is a cost not under the floor: has it more crossings, or as many and no less time?
abbrev pub not_under : LaneCost → LaneCost → Bool
not_under floor c = nat_lt floor.crossings c.crossings || (floor.crossings == c.crossings && nat_le floor.milliseconds c.milliseconds)

-- is a state closed, or not under the floor?
abbrev pub is_state_not_under : LaneCost → LaneState → Bool
is_state_not_under floor Closed = true
is_state_not_under floor (Open c) = not_under floor c

-- a lane's state: closed, or a lane's cost that is not under the floor
abbrev pub is_lane_state : LaneCost → LaneState → Bool
is_lane_state floor Closed = true
is_lane_state floor (Open c) = is_lane_cost c && not_under floor c

-- the place at these coordinates, and the lane with these ends, floor and state, before the tape has noted anything
abbrev pub unnoted_place : ℤ → ℤ → Place
unnoted_place x y = record { x = x; y = y; first = 0; ways = 0; entry_first = 0; entries = 0 }

abbrev pub unnoted_lane : ℕ → ℕ → LaneCost → LaneState → Lane
unnoted_lane from to floor state = record { from = from; to = to; floor = floor; state = state; entering = 0; slot = 0 }

-- what is read past the end of a table
abbrev pub no_place : Place
no_place = record { x = pos 0; y = pos 0; first = 0; ways = 0; entry_first = 0; entries = 0 }

abbrev pub no_lane : Lane
no_lane = record { from = 0; to = 0; floor = record { crossings = 0; milliseconds = 1 }; state = Closed; entering = 0; slot = 0 }

-- the place, and the lane, with a number
abbrev pub place_at : List Place → ℕ → Place
place_at places p = slice_index_or places p no_place

abbrev pub lane_at : List Lane → ℕ → Lane
lane_at lanes f = slice_index_or lanes f no_lane

-- the lanes that leave place p, each as the place it ends at and its number; the first of the lanes has the number k
abbrev pub leaving : ℕ → ℕ → List Lane → List (ℕ × ℕ)
leaving p k [] = []
leaving p k (l ∷ ls) = cond (l.from == p) ((l.to, k) ∷ leaving p (k + 1) ls) (leaving p (k + 1) ls)

-- A lane between the first `count` of the places.
pub record SoundLane (count : ℕ) (places : List Place) (l : Lane) : Type 0 where
  -- its ends are places
  pub from_place : l.from < count
  pub to_place : l.to < count
  pub floor_ranged : is_lane_cost l.floor ≡ true
  -- at floor cost a millimetre takes at least a millisecond
  pub floor_time : larger_difference (place_at places l.from) (place_at places l.to) ≤ l.floor.milliseconds
  pub state_ranged : is_lane_state l.floor l.state ≡ true

-- The first `lanes_count` of the lanes, between the first `places_count` of the places.
pub record SoundLanes (places_count lanes_count : ℕ) (places : List Place) (lanes : List Lane) : Type 0 where
  pub each_sound : (f : ℕ) → f < lanes_count → SoundLane places_count places (lane_at lanes f)
  -- they are sorted by the places that they leave
  pub in_order : (f : ℕ) → f + 1 < lanes_count → (lane_at lanes f).from ≤ (lane_at lanes (f + 1)).from
  pub few_leave : (p : ℕ) → length (leaving p 0 (take lanes_count lanes)) ≤ most_leaving

-- both coordinates of each of the first `count` places are in range
abbrev pub SoundPlaces : ℕ → List Place → Type 0
SoundPlaces count places = (p : ℕ) → p < count → is_place (place_at places p) ≡ true

-- The numbers of a head, and the tables that they count entries of, keep the rules of tapes. What stands past those entries is not asked.
pub record SoundTape (head : TapeHead) (places : List Place) (lanes : List Lane) : Type 0 where
  pub some_place : 1 ≤ head.places
  pub few_places : head.places ≤ most_places
  pub few_lanes : head.lanes ≤ most_lanes
  -- the tables are large enough
  pub places_there : head.places ≤ length places
  pub lanes_there : head.lanes ≤ length lanes
  pub places_sound : SoundPlaces head.places places
  pub lanes_sound : SoundLanes head.places head.lanes places lanes
