-- Tables in front of which a description stands. Assumes nothing.
use Rattle.std.proofs.Common.{◌≡◌, ℕ, ◌+◌, ◌*◌, ◌<◌, ◌≤◌, true, List, ◌++◌, length, take, drop, sym, ap, ◌∙◌, subst, arith, length-append}
use lib.Seq.{take-append-le}
use Rattle.std.proofs.lemmas.List.{take_at, get_or_append_left}
use Rattle.cost.specs.CrossingsFirst.{pair}
use Rattle.tables.specs.States.{Cell}
use Rattle.tables.specs.declared.tape.Place.{Place}
use Rattle.tables.specs.declared.tape.Lane.{Lane}
use Rattle.tables.specs.declared.tape.TapeHead.{TapeHead}
use Rattle.tables.specs.Floors.{FloorDescription, KeepsRanges}
use Rattle.tables.specs.Tapes.{no_place, no_lane, place_at, lane_at, leaving, larger_difference, most_leaving, is_place, SoundLane, SoundTape}
use Rattle.sitefile.specs.Tapes.{tape_head}
use Rattle.sitefile.specs.Sites.{a_floor, a_tape}
use Rattle.floor.specs.Floors.{SoundFloor, cells_of}
use Rattle.floor.specs.Grids.{grid}
use Rattle.tape.specs.TapeSites.{cost_of, length_of, tape_site}
use Rattle.loaded_sites.specs.Loaded.{FloorsMeanTheirFiles, TapesMeanTheirFiles}

-- Floors

floor_front : (d : FloorDescription) (rest table : List Cell) → KeepsRanges d → table ≡ d.cells ++ rest → cells_of d.head table ≡ d.cells
floor_front d rest table k e = ap (take (d.head.rows * d.head.columns)) e ∙ take_at d.cells rest (d.head.rows * d.head.columns) k.cells_counted

pub floors_mean_their_files : FloorsMeanTheirFiles
floors_mean_their_files file before after r d loads accepts =
    let filled = ap (λ t. t.cells) (loads.accepted (a_floor d) accepts).1 in
    let front = floor_front d (drop (length d.cells) before.cells) after.cells accepts.keeps filled in
    let sound : SoundFloor d.head after.cells = subst (λ cells. KeepsRanges (record { head = d.head; cells = cells })) (sym front) accepts.keeps in
    (sound, λ site over. over.sound sound ∙ ap (grid d.head) front)

-- Tapes

place_front : (ps xs : List Place) (p : ℕ) → p < length ps → place_at (ps ++ xs) p ≡ place_at ps p
place_front ps xs p h = get_or_append_left ps xs no_place p h

lane_front : (ls ys : List Lane) (f : ℕ) → f < length ls → lane_at (ls ++ ys) f ≡ lane_at ls f
lane_front ls ys f h = get_or_append_left ls ys no_lane f h

sound_lane_front : (n : ℕ) (ps xs : List Place) (l : Lane) → n ≤ length ps → SoundLane n ps l → SoundLane n (ps ++ xs) l
sound_lane_front n ps xs l there s =
    let from = s.from_place in
    let to = s.to_place in
    record {
      from_place = s.from_place;
      to_place = s.to_place;
      floor_ranged = s.floor_ranged;
      floor_time = subst (λ k. k ≤ l.floor.milliseconds) (λ i. larger_difference (sym (place_front ps xs l.from (omega arith)) i) (sym (place_front ps xs l.to (omega arith)) i)) s.floor_time;
      state_ranged = s.state_ranged;
    }

sound_front : (head : TapeHead) (ps xs : List Place) (ls ys : List Lane) → SoundTape head ps ls → SoundTape head (ps ++ xs) (ls ++ ys)
sound_front head ps xs ls ys s =
    let n = s.places_there in
    let m = s.lanes_there in
    let lanes = s.lanes_sound in
    record {
      some_place = s.some_place;
      few_places = s.few_places;
      few_lanes = s.few_lanes;
      places_there = omega (arith, length-append ps xs);
      lanes_there = omega (arith, length-append ls ys);
      places_sound = λ p h. subst (λ q. is_place q ≡ true) (sym (place_front ps xs p (omega arith))) (s.places_sound p h);
      lanes_sound = record {
        each_sound = λ f h. subst (SoundLane head.places (ps ++ xs)) (sym (lane_front ls ys f (omega arith))) (sound_lane_front head.places ps xs (lane_at ls f) n (lanes.each_sound f h));
        in_order = λ f h. subst (λ (l : Lane). l.from ≤ (lane_at (ls ++ ys) (f + 1)).from) (sym (lane_front ls ys f (omega arith))) (subst (λ (l : Lane). (lane_at ls f).from ≤ l.from) (sym (lane_front ls ys (f + 1) (omega arith))) (lanes.in_order f h));
        few_leave = λ p. subst (λ l. length (leaving p 0 l) ≤ most_leaving) (sym (take-append-le head.lanes ls ys m)) (lanes.few_leave p);
      };
    }

site_front : (head : TapeHead) (ps xs : List Place) (ls ys : List Lane) → SoundTape head ps ls → tape_site head (ps ++ xs) (ls ++ ys) ≡ tape_site head ps ls
site_front head ps xs ls ys s =
    let places = take-append-le head.places ps xs s.places_there in
    let lanes = take-append-le head.lanes ls ys s.lanes_there in
    (λ i. record {
      places = head.places;
      segments = head.lanes;
      ways = λ p. leaving p 0 (lanes i);
      floor = λ f. cost_of (lane_at (lanes i) f).floor;
      state = λ f. length_of (lane_at (lanes i) f).state;
      settable = λ _. true;
      hint = λ p t. pair 0 (larger_difference (place_at (places i) p) (place_at (places i) t));
    })

pub tapes_mean_their_files : TapesMeanTheirFiles
tapes_mean_their_files file before after r d loads accepts =
    let filled = (loads.accepted (a_tape d) accepts).1 in
    let places = ap (λ t. t.places) filled in
    let lanes = ap (λ t. t.lanes) filled in
    let head = tape_head d in
    let xs = drop (length d.places_told) before.places in
    let ys = drop (length d.lanes_told) before.lanes in
    let kept = accepts.keeps.sound in
    let sound : SoundTape head after.places after.lanes = subst (λ l. SoundTape head after.places l) (sym lanes) (subst (λ p. SoundTape head p (d.lanes_told ++ ys)) (sym places) (sound_front head d.places_told xs d.lanes_told ys kept)) in
    (sound, λ site over. over.sound sound ∙ (λ i. tape_site head (places i) (lanes i)) ∙ site_front head d.places_told xs d.lanes_told ys kept)
