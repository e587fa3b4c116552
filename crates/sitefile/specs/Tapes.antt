-- The file of a tape. Assumes nothing.
use Rattle.std.specs.Prelude.{◌≡◌, ℕ, ◌+◌, ◌*◌, ◌/◌, ◌%◌, ◌≤◌, Bool, true, cond, ◌&&◌, nat_lt, nat_le, List, [], ◌∷◌, ◌++◌, length, drop, ℤ, pos, negsuc, Ok, Err, Result, ◌==◌}
use Rattle.std.specs.List.{AllByRecursion}
use Rattle.tables.specs.declared.tape.TapeHead.{TapeHead}
use Rattle.tables.specs.declared.tape.Place.{Place}
use Rattle.tables.specs.declared.tape.Lane.{Lane}
use Rattle.tables.specs.declared.tape.LaneCost.{LaneCost}
use Rattle.tables.specs.States.{LaneState}
use Rattle.tables.specs.declared.State.TheVariants.{Closed, Open}
use Rattle.tables.specs.Floors.{between, longest_segment}
use Rattle.tables.specs.Tapes.{farthest, most_places, most_lanes, most_leaving, most_crossings, is_place, larger_difference, is_lane_cost, is_state_not_under, unnoted_place, unnoted_lane, place_at, leaving, SoundTape}
use Rattle.sitefile.specs.declared.fault.Fault.{Fault}
use Rattle.sitefile.specs.Faults.{small_table, broken_rule}
use Rattle.sitefile.specs.Numbers.{encode}
use Rattle.sitefile.specs.Formats.{Format, ended, position, check, field, FirstFault}
use Rattle.sitefile.specs.Records.{Records, encode_all, many}

-- the byte that a tape's file begins with
abbrev pub tape_kind : ℕ
tape_kind = 0x54

-- Places

-- a coordinate n is stored as 2 n if it is at least 0, else as −2 n − 1
abbrev pub zigzag : ℤ → ℕ
zigzag (pos n) = 2 * n
zigzag (negsuc n) = 2 * n + 1

-- and read back
abbrev pub unzigzag : ℕ → ℤ
unzigzag n = cond (n % 2 == 0) (pos (n / 2)) (negsuc (n / 2))

abbrev pub no_notes_at : Place → Bool
no_notes_at p = p.first == 0 && p.ways == 0 && p.entry_first == 0 && p.entries == 0

abbrev pub is_coordinate_number : ℕ → Bool
is_coordinate_number n = between 0 (2 * farthest) n

-- a place record: two coordinates
abbrev pub places : Records Place
places = record {
  encode = λ p rest. encode (zigzag p.x) ++ (encode (zigzag p.y) ++ rest);
  format = λ _ next. field is_coordinate_number (λ x. field is_coordinate_number (λ y. next (unnoted_place (unzigzag x) (unzigzag y))));
  allowed = λ _ p. is_place p && no_notes_at p;
}

-- Lanes

abbrev pub no_notes_on : Lane → Bool
no_notes_on l = l.entering == 0 && l.slot == 0

abbrev pub cost_format : (LaneCost → Format) → Format
cost_format next = field (between 0 most_crossings) (λ crossings. field (between 1 longest_segment) (λ time. next (record { crossings = crossings; milliseconds = time })))

abbrev pub encode_cost : LaneCost → List ℕ → List ℕ
encode_cost c rest = encode c.crossings ++ (encode c.milliseconds ++ rest)

abbrev pub costs : Records LaneCost
costs = record {
  encode = encode_cost;
  format = λ _ next. cost_format next;
  allowed = λ _ c. is_lane_cost c;
}

-- 0 for closed, or 1 and the present cost
abbrev pub state_format : (LaneState → Format) → Format
state_format next = field (between 0 1) (λ state. cond (state == 0) (next Closed) (cost_format (λ cost. next (Open cost))))

abbrev pub encode_state : LaneState → List ℕ → List ℕ
encode_state Closed rest = encode 0 ++ rest
encode_state (Open c) rest = encode 1 ++ encode_cost c rest

abbrev pub is_state_ranged : LaneState → Bool
is_state_ranged Closed = true
is_state_ranged (Open c) = is_lane_cost c

abbrev pub states : Records LaneState
states = record {
  encode = encode_state;
  format = λ _ next. state_format next;
  allowed = λ _ s. is_state_ranged s;
}

-- from, to, floor cost and state
abbrev pub lane_format : ℕ → (Lane → Format) → Format
lane_format count next =
    field (λ n. nat_lt n count) (λ from. field (λ n. nat_lt n count) (λ to. cost_format (λ floor. state_format (λ state. next (unnoted_lane from to floor state)))))

abbrev pub encode_lane : Lane → List ℕ → List ℕ
encode_lane l rest = encode l.from ++ (encode l.to ++ encode_cost l.floor (encode_state l.state rest))

-- are the numbers of a lane between `count` places in their ranges?
abbrev pub is_lane_ranged : ℕ → Lane → Bool
is_lane_ranged count l = nat_lt l.from count && nat_lt l.to count && is_lane_cost l.floor && is_state_ranged l.state && no_notes_on l

-- the records of lanes by their numbers alone
abbrev pub lane_numbers : ℕ → Records Lane
lane_numbers count = record {
  encode = encode_lane;
  format = λ _ next. lane_format count next;
  allowed = λ _ l. is_lane_ranged count l;
}

-- the place that the last of some lanes leaves
abbrev pub last_from : List Lane → ℕ
last_from [] = 0
last_from (l ∷ []) = l.from
last_from (l ∷ (k ∷ ls)) = last_from (k ∷ ls)

-- Does a lane between places keep the rules, after those before it: not from a place below the last one's, fewer than 64 before it from the same place, floor milliseconds not under the larger coordinate difference, present cost not under the floor?
abbrev pub keeps_rules : List Place → List Lane → Lane → Bool
keeps_rules ps before l =
    nat_le (last_from before) l.from
    && nat_lt (length (leaving l.from 0 before)) most_leaving
    && nat_le (larger_difference (place_at ps l.from) (place_at ps l.to)) l.floor.milliseconds
    && is_state_not_under l.floor l.state

-- the records of lanes between these places: their numbers come before their rules, and a rule's fault names the record's first byte
abbrev pub lanes : ℕ → List Place → Records Lane
lanes count ps = record {
  encode = encode_lane;
  format = λ before next. position (λ at. lane_format count (λ l. check (keeps_rules ps before l) (broken_rule at) (next l)));
  allowed = λ before l. is_lane_ranged count l && keeps_rules ps before l;
}

-- The file

-- a tape, described: its places and its lanes
pub record TapeDescription : Type 0 where
  pub places_told : List Place
  pub lanes_told : List Lane

abbrev pub tape_head : TapeDescription → TapeHead
tape_head d = record { places = length d.places_told; lanes = length d.lanes_told }

-- It keeps the rules of tapes, and has no notes.
pub record KeepsTapeRules (d : TapeDescription) : Type 0 where
  pub sound : SoundTape (tape_head d) d.places_told d.lanes_told
  pub places_unnoted : AllByRecursion (λ p. no_notes_at p ≡ true) d.places_told
  pub lanes_unnoted : AllByRecursion (λ l. no_notes_on l ≡ true) d.lanes_told

-- the counts of places and lanes, then the places, then the lanes
abbrev pub tape_bytes : TapeDescription → List ℕ
tape_bytes d = encode (length d.places_told) ++ (encode (length d.lanes_told) ++ encode_all places d.places_told (encode_all (lane_numbers (length d.places_told)) d.lanes_told []))

-- the kind, and then those
abbrev pub tape_layout : TapeDescription → List ℕ
tape_layout d = tape_kind ∷ tape_bytes d

-- what follows the first byte, where the tables have so many entries: that is asked as soon as both counts are known
abbrev pub tape_format : ℕ → ℕ → Format
tape_format place_entries lane_entries =
    field (between 1 most_places) (λ n. field (between 0 most_lanes) (λ m. check (nat_le n place_entries && nat_le m lane_entries) small_table (many places n [] (λ ps. many (lanes n ps) m [] (λ _. ended)))))

-- the counts of a tape, for which the tables are large enough
pub record CountsRead (place_entries lane_entries : ℕ) (bytes : List ℕ) (head : TapeHead) (rest : List ℕ) : Type 0 where
  pub form : bytes ≡ encode head.places ++ (encode head.lanes ++ rest)
  pub places_ranged : between 1 most_places head.places ≡ true
  pub lanes_ranged : between 0 most_lanes head.lanes ≡ true
  pub roomy : nat_le head.places place_entries && nat_le head.lanes lane_entries ≡ true

-- What reading a tape after the first byte comes to: a tape that the bytes describe, whose places and lanes then stand in the tables, or the first fault.
abbrev pub LoadsTape : ℕ → List ℕ → List Place → List Place → List Lane → List Lane → Result TapeHead Fault → Type 0
LoadsTape size bytes pt pt' lt lt' (Ok head) =
    (d : TapeDescription) × KeepsTapeRules d × (bytes ≡ tape_bytes d) × (length d.places_told ≤ length pt) × (length d.lanes_told ≤ length lt) × (head ≡ tape_head d)
    × (pt' ≡ d.places_told ++ drop (length d.places_told) pt) × (lt' ≡ d.lanes_told ++ drop (length d.lanes_told) lt)
LoadsTape size bytes pt pt' lt lt' (Err f) = FirstFault size (tape_format (length pt) (length lt)) bytes f × (pt' ≡ pt) × (lt' ≡ lt)
