-- A head and its tables keep the rules exactly where the entries that it counts do. Assumes nothing.
use Rattle.std.proofs.Common.{◌≡◌, ℕ, ◌+◌, ◌<◌, ◌≤◌, max, true, nat_lt, List, length, take, sym, ap, ◌∙◌, subst, arith}
use Rattle.std.proofs.Math.Seq.{take-length}
use Rattle.std.proofs.lemmas.List.{get_or-take, length-take-le}
use Rattle.std.proofs.lemmas.Bool.{lt-ltb}
use Rattle.std.proofs.lemmas.Bool.Decides.{nat_tests}
use Rattle.tables.specs.Tapes.{is_place, larger_difference, leaving, place_at, lane_at, no_place, no_lane, SoundPlaces, SoundLane, SoundLanes, SoundTape}
use Rattle.tables.specs.declared.tape.TapeHead.{TapeHead}
use Rattle.tables.specs.declared.tape.Place.{Place}
use Rattle.tables.specs.declared.tape.Lane.{Lane}
use Rattle.cost.specs.CrossingsFirst.{pair, crossings_first}
use Rattle.routes.specs.Sites.{Lawful}
use Rattle.tape.specs.TapeSites.{cost_of, length_of, tape_site, fitting, SoundTapesAreLawful}
use Rattle.tape.specs.TapeTables.{SoundTables, tables_site}
use Rattle.tape.specs.TapeLaws.{tables_lawful}

module _ (head : TapeHead) (ps : List Place) (ls : List Lane) (places : head.places ≤ length ps) (lanes : head.lanes ≤ length ls) where
  abbrev n : ℕ
  n = head.places

  abbrev m : ℕ
  m = head.lanes

  abbrev P : List Place
  P = take n ps

  abbrev L : List Lane
  L = take m ls

  pub places_counted : length P ≡ n
  places_counted = length-take-le n ps places

  pub lanes_counted : length L ≡ m
  lanes_counted = length-take-le m ls lanes

  place_same : (p : ℕ) → p < n → place_at P p ≡ place_at ps p
  place_same p h = get_or-take n ps p no_place h

  lane_same : (f : ℕ) → f < m → lane_at L f ≡ lane_at ls f
  lane_same f h = get_or-take m ls f no_lane h

  near : (l : Lane) → l.from < n → l.to < n → larger_difference (place_at P l.from) (place_at P l.to) ≡ larger_difference (place_at ps l.from) (place_at ps l.to)
  near l from to = λ i. larger_difference (place_same l.from from i) (place_same l.to to i)

  whole_places : SoundPlaces (length P) P → SoundPlaces n ps
  whole_places s p h = ap is_place (sym (place_same p h)) ∙ s p (omega (arith, places_counted))

  whole_lane : (l : Lane) → SoundLane (length P) P l → SoundLane n ps l
  whole_lane l s =
      let from : l.from < n = omega (arith, s.from_place, places_counted) in
      let to : l.to < n = omega (arith, s.to_place, places_counted) in
      record { from_place = from; to_place = to; floor_ranged = s.floor_ranged; floor_time = omega (arith, near l from to, s.floor_time); state_ranged = s.state_ranged }

  part_lane : (l : Lane) → SoundLane n ps l → SoundLane (length P) P l
  part_lane l s = record {
    from_place = omega (arith, s.from_place, places_counted);
    to_place = omega (arith, s.to_place, places_counted);
    floor_ranged = s.floor_ranged;
    floor_time = omega (arith, near l s.from_place s.to_place, s.floor_time);
    state_ranged = s.state_ranged;
  }

  whole_lanes : SoundLanes (length P) (length L) P L → SoundLanes n m ps ls
  whole_lanes s = record {
    each_sound = λ f h. whole_lane (lane_at ls f) (subst (SoundLane (length P) P) (lane_same f h) (s.each_sound f (omega (arith, lanes_counted))));
    in_order = λ f h. omega (arith, s.in_order f (omega (arith, lanes_counted)), ap (λ (l : Lane). l.from) (lane_same f (omega arith)), ap (λ (l : Lane). l.from) (lane_same (f + 1) h));
    few_leave = λ p. subst (λ xs. length (leaving p 0 xs) ≤ 64) (take-length L) (s.few_leave p);
  }

  pub whole_sound : 1 ≤ n → n ≤ 4_096 → m ≤ 8_192 → SoundPlaces (length P) P → SoundLanes (length P) (length L) P L → SoundTape head ps ls
  whole_sound some few_places few_lanes ok_places ok_lanes = record {
    some_place = some;
    few_places = few_places;
    few_lanes = few_lanes;
    places_there = places;
    lanes_there = lanes;
    places_sound = whole_places ok_places;
    lanes_sound = whole_lanes ok_lanes;
  }

  pub part_sound : SoundTape head ps ls → SoundTables P L
  part_sound s = record {
    few_places = omega (arith, s.few_places, places_counted);
    few_lanes = omega (arith, s.few_lanes, lanes_counted);
    places_sound = λ p h. let low : p < n = omega (arith, places_counted) in ap is_place (place_same p low) ∙ s.places_sound p low;
    lanes_sound = record {
      each_sound = λ f h. let low : f < m = omega (arith, lanes_counted) in part_lane (lane_at L f) (subst (SoundLane n ps) (sym (lane_same f low)) (s.lanes_sound.each_sound f low));
      in_order = λ f h. omega (arith, s.lanes_sound.in_order f (omega (arith, lanes_counted)), ap (λ (l : Lane). l.from) (lane_same f (omega (arith, lanes_counted))), ap (λ (l : Lane). l.from) (lane_same (f + 1) (omega (arith, lanes_counted))));
      few_leave = λ p. subst (λ xs. length (leaving p 0 xs) ≤ 64) (sym (take-length L)) (s.lanes_sound.few_leave p);
    };
  }

  -- the site that the head describes is that of those entries
  pub described : 1 ≤ n → tape_site head ps ls ≡ tables_site P L
  described some =
      let count : n ≡ max (length P) 1 = omega (arith, places_counted) in
      let one : true ≡ nat_lt 0 (length P) = sym (lt-ltb 0 (length P) (omega (arith, places_counted))) in
      λ i. record {
        places = count i;
        segments = sym lanes_counted i;
        ways = λ p. leaving p 0 L;
        floor = λ f. cost_of (lane_at L f).floor;
        state = λ f. length_of (lane_at L f).state;
        settable = λ _. one i;
        hint = λ s t. pair 0 (larger_difference (place_at P s) (place_at P t));
      }

pub sound_lawful : SoundTapesAreLawful
sound_lawful head ps ls s =
    let P = take head.places ps in
    let L = take head.lanes ls in
    subst (Lawful crossings_first) (sym (described head ps ls s.places_there s.lanes_there s.some_place)) (tables_lawful P L (part_sound head ps ls s.places_there s.lanes_there s))

-- what the test on the counts tells
pub record Fits (head : TapeHead) (places lanes : ℕ) : Type 0 where
  pub some_place : 1 ≤ head.places
  pub few_places : head.places ≤ 4_096
  pub few_lanes : head.lanes ≤ 8_192
  pub places_there : head.places ≤ places
  pub lanes_there : head.lanes ≤ lanes

pub fitting_parts : (head : TapeHead) (places lanes : ℕ) → fitting head places lanes ≡ true → Fits head places lanes
fitting_parts head places lanes ok =
    let n = head.places in
    let m = head.lanes in
    let h : (1 ≤ n) × (n ≤ 4_096) × (m ≤ 8_192) × (n ≤ places) × (m ≤ lanes) = grind (arith, nat_tests, ok) in
    record { some_place = h.0; few_places = h.1; few_lanes = h.2; places_there = h.3; lanes_there = h.4 }
