-- What the tables keep where some of their parts are replaced. Assumes nothing.
use Rattle.std.proofs.Common.{◌≡◌, ℕ, suc, ◌+◌, ◌<◌, max, true, cond, ◌&&◌, eqb, leb, List, [], ◌∷◌, length, ◌-ℤ◌, nat_abs, sym, refl, ap, ◌∙◌, arith}
use Rattle.std.proofs.Math.Seq.{take-length}
use Rattle.tables.specs.Tapes.{is_place, is_lane_cost, is_lane_state, larger_difference, leaving, place_at, lane_at}
use Rattle.tables.specs.declared.tape.Place.{Place}
use Rattle.tables.specs.declared.tape.Lane.{Lane}
use Rattle.tape_notes.specs.Noting.{SameCoordinates}
use Rattle.tape.specs.TapeTables.{SoundTables}

pub same_is_place : (a b : Place) → SameCoordinates a b → is_place b ≡ is_place a
same_is_place a b s = let x = s.x_same in let y = s.y_same in λ i. leb (nat_abs (x i)) 30_000 && leb (nat_abs (y i)) 30_000

pub same_difference : (a b c d : Place) → SameCoordinates a c → SameCoordinates b d → larger_difference c d ≡ larger_difference a b
same_difference a b c d s t =
    let ax = s.x_same in
    let ay = s.y_same in
    let bx = t.x_same in
    let by = t.y_same in
    λ i. max (nat_abs (ax i -ℤ bx i)) (nat_abs (ay i -ℤ by i))

-- a lane that may differ in its state and its notes
pub record SameCourse (a b : Lane) : Type 0 where
  pub from_same : b.from ≡ a.from
  pub to_same : b.to ≡ a.to
  pub floor_same : b.floor ≡ a.floor

pub same_leaving : (p k : ℕ) (xs ys : List Lane) → length ys ≡ length xs → ((f : ℕ) → SameCourse (lane_at xs f) (lane_at ys f)) → leaving p k ys ≡ leaving p k xs
same_leaving p k [] [] long same = refl
same_leaving p k [] (y ∷ ys) long same = absurd (omega arith)
same_leaving p k (x ∷ xs) [] long same = absurd (omega arith)
same_leaving p k (x ∷ xs) (y ∷ ys) long same =
    let from = (same 0).from_same in
    let to = (same 0).to_same in
    let rest = same_leaving p (k + 1) xs ys (omega arith) (λ f. same (suc f)) in
    λ i. cond (eqb (from i) p) ((to i, k) ∷ rest i) (rest i)

-- tables whose places and lanes differ in states and notes only are as sound, where the states are
pub same_sound : (ps vs : List Place) (ls xs : List Lane) → length vs ≡ length ps → length xs ≡ length ls →
    ((p : ℕ) → SameCoordinates (place_at ps p) (place_at vs p)) → ((f : ℕ) → SameCourse (lane_at ls f) (lane_at xs f)) →
    ((f : ℕ) → f < length ls → is_lane_state (lane_at xs f).floor (lane_at xs f).state ≡ true) → SoundTables ps ls → SoundTables vs xs
same_sound ps vs ls xs places lanes coordinates courses states s = record {
  few_places = omega (arith, places, s.few_places);
  few_lanes = omega (arith, lanes, s.few_lanes);
  places_sound = λ p h. same_is_place (place_at ps p) (place_at vs p) (coordinates p) ∙ s.places_sound p (omega arith);
  lanes_sound = record {
    each_sound = λ f h.
        let low : f < length ls = omega arith in
        let old = s.lanes_sound.each_sound f low in
        let c = courses f in
        let near : larger_difference (place_at vs (lane_at xs f).from) (place_at vs (lane_at xs f).to) ≡ larger_difference (place_at ps (lane_at ls f).from) (place_at ps (lane_at ls f).to) =
        (λ i. larger_difference (place_at vs (c.from_same i)) (place_at vs (c.to_same i))) ∙ same_difference _ _ _ _ (coordinates (lane_at ls f).from) (coordinates (lane_at ls f).to) in
        record {
          from_place = omega (arith, c.from_same, old.from_place);
          to_place = omega (arith, c.to_same, old.to_place);
          floor_ranged = ap is_lane_cost c.floor_same ∙ old.floor_ranged;
          floor_time = omega (arith, near, ap (λ t. t.milliseconds) c.floor_same, old.floor_time);
          state_ranged = states f low;
        };
    in_order = λ f h. omega (arith, (courses f).from_same, (courses (f + 1)).from_same, s.lanes_sound.in_order f (omega arith));
    few_leave = λ p. omega (arith, s.lanes_sound.few_leave p, ap length (ap (leaving p 0) (take-length xs) ∙ same_leaving p 0 ls xs lanes courses ∙ ap (leaving p 0) (sym (take-length ls))));
  };
}
