-- The site that a head and its tables describe. Assumes nothing.
use Rattle.std.specs.Prelude.{◌≡◌, ℕ, Bool, true, false, ◌&&◌, List, [], take, nat_le}
use Rattle.cost.specs.CrossingsFirst.{pair, crossings_first}
use Rattle.cost.specs.declared.crossings_first.CrossingsFirst.{CrossingsFirst}
use Rattle.cost.specs.declared.lengths.Length.{Length}
use Rattle.cost.specs.declared.lengths.Length.TheVariants.{Finite, Infinite}
use Rattle.routes.specs.Sites.{Meaning, Lawful}
use Rattle.tables.specs.Tapes.{most_places, most_lanes, larger_difference, place_at, lane_at, leaving, SoundTape}
use Rattle.tables.specs.declared.tape.TapeHead.{TapeHead}
use Rattle.tables.specs.declared.tape.Place.{Place}
use Rattle.tables.specs.declared.tape.Lane.{Lane}
use Rattle.tables.specs.declared.tape.LaneCost.{LaneCost}
use Rattle.tables.specs.States.{LaneState}
use Rattle.tables.specs.declared.State.TheVariants.{Closed, Open}

-- a lane's cost, as a cost that is compared by crossings first
abbrev pub cost_of : LaneCost → CrossingsFirst
cost_of c = pair c.crossings c.milliseconds

-- a lane's state, as the present cost of a segment
abbrev pub length_of : LaneState → Length CrossingsFirst
length_of Closed = Infinite
length_of (Open c) = Finite (cost_of c)

-- a cost, as it is written into a lane
abbrev pub lane_cost : CrossingsFirst → LaneCost
lane_cost c = record { crossings = c.crossings; milliseconds = c.time.count }

-- Lane n is segment n, and a place's ways go by lane number. A lane's floor and state are those of its segment, and each segment can be set. The hint is no crossing and the larger coordinate difference.
abbrev pub tape_site : TapeHead → List Place → List Lane → Meaning CrossingsFirst
tape_site head places lanes = record {
  places = head.places;
  segments = head.lanes;
  ways = λ p. leaving p 0 (take head.lanes lanes);
  floor = λ f. cost_of (lane_at (take head.lanes lanes) f).floor;
  state = λ f. length_of (lane_at (take head.lanes lanes) f).state;
  settable = λ _. true;
  hint = λ s t. pair 0 (larger_difference (place_at (take head.places places) s) (place_at (take head.places places) t));
}

-- a site that sound tables describe keeps the rules of sites; that no hint is too great follows from the floors that lanes may have
abbrev pub SoundTapesAreLawful : Type 0
SoundTapesAreLawful = (head : TapeHead) (places : List Place) (lanes : List Lane) → SoundTape head places lanes → Lawful crossings_first (tape_site head places lanes)

-- one place, at (0, 0), and no segment
abbrev pub one_place : Meaning CrossingsFirst
one_place = record {
  places = 1;
  segments = 0;
  ways = λ _. [];
  floor = λ _. pair 0 1;
  state = λ _. Infinite;
  settable = λ _. false;
  hint = λ _ _. pair 0 0;
}

-- The site over a head and its tables: the one they describe, or one place where they break the rules.
pub record SiteOver (head : TapeHead) (places : List Place) (lanes : List Lane) (site : Meaning CrossingsFirst) : Type 0 where
  pub sound : SoundTape head places lanes → site ≡ tape_site head places lanes
  pub faulty : (SoundTape head places lanes → ⊥) → site ≡ one_place

-- the counts of a head are in range, and tables of these lengths have an entry for each place and lane
abbrev pub fitting : TapeHead → ℕ → ℕ → Bool
fitting head places lanes = nat_le 1 head.places && nat_le head.places most_places && nat_le head.lanes most_lanes && nat_le head.places places && nat_le head.lanes lanes
