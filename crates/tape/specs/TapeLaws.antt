-- The rules that every tape keeps, whatever tables it was made over. Assumes nothing.
use Rattle.std.proofs.Common.{◌≡◌, ℕ, ◌+◌, ◌-◌, ◌<◌, ◌≤◌, max, true, List, length, sym, refl, ap, ◌∙◌, subst, ⊎_elim, arith}
use mathlib.Core.List.Memᴰ
use mathlib.Core.List.{Memᴰ}
use Rattle.std.proofs.Math.Seq.{take-length}
use Rattle.std.proofs.lemmas.List.FromFn.{length-map-range_with_len}
use Rattle.std.proofs.lemmas.List.{get_or_past}
use Rattle.std.proofs.lemmas.Bool.Decides.{nat_tests}
use Rattle.std.proofs.lemmas.Bool.{cases_lt, and_parts, le-leb}
use Rattle.cost.specs.CrossingsFirst.{pair, crossings_first}
use Rattle.cost.specs.declared.crossings_first.CrossingsFirst.{CrossingsFirst}
use Rattle.cost.specs.declared.lengths.Length.TheVariants.{Finite}
use Rattle.routes.specs.Sites.{Way, Lawful, allowed}
use Rattle.site.specs.Directories.{Indexed}
use Rattle.tables.specs.Tapes.{is_place, is_lane_state, larger_difference, no_place, no_lane, place_at, lane_at, leaving}
use Rattle.tables.specs.States.{LaneState}
use Rattle.tables.specs.declared.State.TheVariants.{Closed, Open}
use Rattle.tables.specs.declared.tape.LaneCost.{LaneCost}
use Rattle.tables.specs.declared.tape.Place.{Place}
use Rattle.tables.specs.declared.tape.Lane.{Lane}
use Rattle.tape.specs.TapeSites.{cost_of, length_of}
use Rattle.tape.specs.TapeTables.{SoundTables, NotedTables, tables_site, tables_directory}
use Rattle.tape.specs.TapeMeaning.{tape_meaning, tape_directory}
use Rattle.tape.specs.declared.Tape.{Tape}
use Rattle.tape.specs.Counting.{counted_from, counted_member}
use Rattle.tape.specs.Distances.{larger_difference_self, larger_difference_small, larger_difference_step}
use Rattle.tape.specs.Leaving.{leaving_lane}

-- the states that keep the rules of lanes are those that are allowed
pub state_allowed : (floor : LaneCost) (x : LaneState) → allowed crossings_first (cost_of floor) (length_of x) ≡ is_lane_state floor x
state_allowed floor Closed = refl
state_allowed floor (Open c) = refl

hint_le : (c : CrossingsFirst) (a b : ℕ) → a ≤ c.time.count + b → crossings_first.le (pair 0 a) (crossings_first.add c (pair 0 b)) ≡ true
hint_le c a b h = grind (arith, nat_tests)

module _ (ps : List Place) (ls : List Lane) (s : SoundTables ps ls) where
  -- past the places (0, 0) is read
  position_ranged : (p : ℕ) → is_place (place_at ps p) ≡ true
  position_ranged p = ⊎_elim (s.places_sound p) (λ h. ap is_place (get_or_past ps p no_place h)) (cases_lt p (length ps))

  -- a way goes over a lane of the tables
  record Over (p u f : ℕ) : Type 0 where
    pub lane : f < length ls
    pub leaves : (lane_at ls f).from ≡ p
    pub ends : (lane_at ls f).to ≡ u

  way_over_lane : (p u f : ℕ) → Way (tables_site ps ls) p u f → Over p u f
  way_over_lane p u f w =
      let l = leaving_lane p u f 0 ls w in
      let e : l.index ≡ f = omega (arith, l.numbered) in
      record { lane = omega (arith, l.inside); leaves = ap (λ j. (lane_at ls j).from) (sym e) ∙ l.leaves; ends = ap (λ j. (lane_at ls j).to) (sym e) ∙ sym l.ends }

  cost_allowed : (f : ℕ) (c : CrossingsFirst) → f < length ls → length_of (lane_at ls f).state ≡ Finite c → allowed crossings_first (cost_of (lane_at ls f).floor) (Finite c) ≡ true
  cost_allowed f c h is =
      subst (λ x. allowed crossings_first (cost_of (lane_at ls f).floor) x ≡ true) is
      (state_allowed (lane_at ls f).floor (lane_at ls f).state ∙ (s.lanes_sound.each_sound f h).state_ranged)

  -- a lane takes as long as its ends lie apart
  way_slow : (p u f t : ℕ) → Over p u f → larger_difference (place_at ps p) (place_at ps t) ≤ (lane_at ls f).floor.milliseconds + larger_difference (place_at ps u) (place_at ps t)
  way_slow p u f t over =
      let near : larger_difference (place_at ps (lane_at ls f).from) (place_at ps (lane_at ls f).to) ≡ larger_difference (place_at ps p) (place_at ps u) = (λ i. larger_difference (place_at ps (over.leaves i)) (place_at ps (over.ends i))) in
      omega (arith, near, (s.lanes_sound.each_sound f over.lane).floor_time, larger_difference_step (place_at ps p) (place_at ps u) (place_at ps t))

  pub tables_lawful : Lawful crossings_first (tables_site ps ls)
  tables_lawful = record {
    places_some = omega arith;
    places_few = omega (arith, s.few_places);
    segments_few = omega (arith, s.few_lanes);
    ways_few = λ p. subst (λ xs. length (leaving p 0 xs) ≤ 64) (take-length ls) (s.lanes_sound.few_leave p);
    way_place = λ p u f w. let over = way_over_lane p u f w in omega (arith, over.ends, (s.lanes_sound.each_sound f over.lane).to_place);
    way_segment = λ p u f w. (way_over_lane p u f w).lane;
    floor_segment = λ f h. (s.lanes_sound.each_sound f h).floor_ranged;
    state_segment = λ f c h is. (and_parts (crossings_first.segment c) (crossings_first.le (cost_of (lane_at ls f).floor) c) (cost_allowed f c h is)).0;
    state_floor = λ f c h is. (and_parts (crossings_first.segment c) (crossings_first.le (cost_of (lane_at ls f).floor) c) (cost_allowed f c h is)).1;
    hint_within = λ p t hp ht. le-leb _ 4_095_000_000 (omega (arith, larger_difference_small (place_at ps p) (place_at ps t) (position_ranged p) (position_ranged t)));
    hint_self = λ t h. ap (pair 0) (larger_difference_self (place_at ps t));
    hint_way = λ p u f t hp ht w. hint_le (cost_of (lane_at ls f).floor) _ _ (way_slow p u f t (way_over_lane p u f w));
  }

  -- each lane leaves a place, and past them place 0 is read
  leaves_place : (f : ℕ) → (lane_at ls f).from < max (length ps) 1
  leaves_place f =
      ⊎_elim
      (λ h. omega (arith, (s.lanes_sound.each_sound f h).from_place))
      (λ h. omega (arith, ap (λ (l : Lane). l.from) (get_or_past ls f no_lane h)))
      (cases_lt f (length ls))

  entries_few : NotedTables ps ls → (u : ℕ) → (place_at ps u).entries ≤ 8_192
  entries_few n u =
      ⊎_elim
      (λ h. omega (arith, (n.each_place u h).entries_there, s.few_lanes))
      (λ h. omega (arith, ap (λ (v : Place). v.entries) (get_or_past ps u no_place h)))
      (cases_lt u (length ps))

  entered : ℕ → ℕ
  entered j = (lane_at ls (lane_at ls j).entering).from

  source_there : NotedTables ps ls → (p u f : ℕ) → Over p u f → Memᴰ p ((tables_directory ps ls).sources u)
  unfolding entered
  source_there n p u f over =
      let k = n.each_lane f over.lane in
      let end = place_at ps (lane_at ls f).to in
      let a = end.entry_first in
      let j = (lane_at ls f).slot in
      let e : j ≡ a + (j - a) = omega (arith, k.low) in
      let start : p ≡ entered (a + (j - a)) = sym over.leaves ∙ ap (λ g. (lane_at ls g).from) (sym k.stands) ∙ ap entered e in
      subst (λ v. Memᴰ p ((tables_directory ps ls).sources v)) over.ends
      (Memᴰ.cast start (counted_member entered a end.entries (j - a) (omega (arith, k.low, k.high))))

  pub tables_indexed : NotedTables ps ls → Indexed (tables_site ps ls) (tables_directory ps ls)
  unfolding entered
  tables_indexed n = record {
    sources_few = λ u. omega (arith, length-map-range_with_len entered (place_at ps u).entry_first (place_at ps u).entries, entries_few n u);
    users_few = λ f. omega arith;
    sources_places = λ u p is.
        let got = counted_from entered (place_at ps u).entry_first (place_at ps u).entries p is in
        subst (λ v. v < max (length ps) 1) (sym got.2) (leaves_place (lane_at ls ((place_at ps u).entry_first + got.0)).entering);
    users_places = λ f p is. subst (λ v. v < max (length ps) 1) (sym (Memᴰ.eq_of_singleton is)) (leaves_place f);
    source_found = λ p u f h w other. source_there n p u f (way_over_lane p u f w);
    user_found = λ p u f h w other. Memᴰ.head (sym (way_over_lane p u f w).leaves);
  }

pub tape_lawful : (s : Tape) → Lawful crossings_first (tape_meaning s)
tape_lawful s = tables_lawful s.places.now s.lanes.now s.sound

pub tape_indexed : (s : Tape) → Indexed (tape_meaning s) (tape_directory s)
tape_indexed s = tables_indexed s.places.now s.lanes.now s.sound s.noted
